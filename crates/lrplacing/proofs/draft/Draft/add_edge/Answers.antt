use Rattle.std.proofs.Common.{◌≡◌, None, sym, subst}
use Rattle.lrspec.specs.merging.Graph.{edge_at}
use Rattle.lrgrammar.specs.Symbols.{symbol_of}
use Rattle.lrplacing.specs.Construction.{Draft}
use Rattle.lrplacing.proofs.EdgesOnce.{stored_edge, stored_once}
use Rattle.lrplacing.proofs.draft.Draft.add_edge.Goals as goal

pub invariant_of-self-2 : goal.invariant_of-self-2
invariant_of-self-2 g c =
    let number = g.T.IndexStorage.number in
    let free = subst (λ (s : Draft). edge_at s.edges (symbol_of number c.args.symbol) ≡ None) (sym c.self.view_is) c.requires in
    stored_once number c.self.inside.edges.items c.push.new.self.items c.args.symbol c.args.to c.in_ok-push.ensures.items free c.self.invariant

pub returns-clause-edge : goal.returns-clause-edge
returns-clause-edge g c =
    let number = g.T.IndexStorage.number in
    let free = subst (λ (s : Draft). edge_at s.edges (symbol_of number c.args.symbol) ≡ None) (sym c.self.view_is) c.requires in
    rw (← c.self.view_is)
    (stored_edge number c.self.inside.edges.items c.push.new.self.items c.args.symbol c.args.to c.in_ok-push.ensures.items free)
