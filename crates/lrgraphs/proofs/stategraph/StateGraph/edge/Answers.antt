use Rattle.std.proofs.Common.{ap, sym, ◌∙◌}
use Rattle.std.specs.Prelude.{option_map}
use Rattle.lrgrammar.specs.Symbols.{symbol_of}
use Rattle.lrgraphs.proofs.EdgeFacts.{edge_here}
use Rattle.lrgraphs.proofs.GraphFacts.{edge_of_stored}
use Rattle.lrgraphs.proofs.stategraph.StateGraph.edge.Goals as goal

pub returns : goal.returns
returns g c =
    let number = g.T.IndexStorage.number in
    let at = c.in_ok-state.ensures.lookup in
    rw (← c.self.view_is)
    (ap (option_map (λ u. number u.0)) c.find_edge.ensures.found
    ∙ edge_here number (λ u. number u.0) _ c.find_edge.ensures.order c.in_ok-state.state.now.edges.entries c.args.sym
    ∙ sym (edge_of_stored number c.self.inside.states.items c.deref.result.now (number c.args.stidx.0) c.from.result c.in_ok-state.state.now (symbol_of number c.args.sym) c.deref.ensures.value c.from.ensures at.3.0 at.1))
