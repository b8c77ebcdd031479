use Rattle.std.specs.String.{string_bytes}
use Rattle.lritems.specs.ItemsOf.{set_of}
use Rattle.lrgraphs.proofs.PrintedStates.{sorted_by_target, sorted_on_body_symbols, state_pieces}
use Rattle.lrgraphs.proofs.stategraph.StateGraph.push_state.Goals as goal

pub push_edges-requires : goal.push_edges-requires
push_edges-requires g c =
    let sorted = c.in_ok-sorted.ensures in
    sorted_on_body_symbols g.T.IndexStorage.number c.args.grm.now c.args.self.now c.self.inside.states.items c.args.number c.index.result.now c.in_ok-sorted.sorted.items
    c.as_slice.result.now c.requires.graph c.self.view_is c.requires.state c.index.ensures sorted.found sorted.sorted c.as_slice.ensures.value c.allocator.ensures.shape

pub returns : goal.returns
returns g c =
    let number = g.T.IndexStorage.number in
    let sorted = c.in_ok-sorted.ensures in
    let by_target =
    sorted_by_target number c.args.grm.now c.args.self.now c.self.inside.states.items c.args.number c.index.result.now c.in_ok-sorted.sorted.items
    c.as_slice.result.now c.requires.graph c.self.view_is c.requires.state c.index.ensures sorted.found sorted.sorted c.as_slice.ensures.value in
    state_pieces c.args.grm.now c.args.width c.args.number (set_of number c.args.items.now) _ _ c.push_edges.result (string_bytes c.args.text.now) _ _
    (string_bytes c.push_edges.new.text) c.args.parting.now c.in_ok-push_label.ensures c.in_ok-push_items.ensures.text c.requires.parting by_target c.push_edges.ensures
