-- a turn for each state
use Rattle.std.proofs.Common.{◌∙◌, arith}
use Rattle.lrgrammar.proofs.Turns.{has_index, index_number}
use Rattle.lrsearches.proofs.StepsOfPlaces.{edge_below}
use Rattle.lrsearches.proofs.RowsInTurn.{begin_incoming, next_incoming, end_incoming}
use Rattle.lrsearches.proofs.ways.incoming.Goals as goal

pub loop-state-init : goal.loop-state-init
loop-state-init g c =
    begin_incoming g.T.IndexStorage.number c.args.graph.now c.in_ok-incoming.incoming.items
    (c.in_ok-incoming.ensures.count ∙ c.to_usize-states.ensures.number ∙ c.all_states_len.ensures) c.in_ok-incoming.ensures.empty

pub loop-state-preserved : goal.loop-state-preserved
loop-state-preserved g c =
    let number = g.T.IndexStorage.number in
    let is = index_number number g.T.IndexStorage.MAX c.loop-state.state c.from_usize.result c.unwrap.result c.unwrap.ensures c.from_usize.ensures in
    next_incoming number c.args.graph.now c.loop-state.state c.loop-state.incoming.items c.add_edges.new.incoming.items c.loop-state.invariant (rw is at c.in_ok-add_edges.ensures)

pub returns : goal.returns
returns g c =
    end_incoming g.T.IndexStorage.number c.args.graph.now c.loop-state.state c.loop-state.incoming.items
    (omega (arith, c.loop-state-test.false, c.to_usize-states.ensures.number, c.all_states_len.ensures)) (λ s u v e. edge_below c.args.graph.now s u v e) c.loop-state.invariant

pub unwrap-requires : goal.unwrap-requires
unwrap-requires g c =
    has_index _ g.T.IndexStorage.MAX c.loop-state.state c.from_usize.result c.from_usize.ensures
    (omega (arith, c.loop-state-test.true, c.to_usize-states.ensures.number, c.to_usize-states.ensures.within))

pub add_edges-requires-clause-below : goal.add_edges-requires-clause-below
add_edges-requires-clause-below g c = λ x u e. (c.requires.gotos.gotos _ u x e).below
