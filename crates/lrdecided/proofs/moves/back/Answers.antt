-- both go back
use Rattle.lrdecided.specs.Rules as rule
use Rattle.lrdecided.specs.StoredNodes.{side_of, states_of, next_of, node_of}
use Rattle.lrdecided.proofs.CollectedInTurn.{added}
use Rattle.lrdecided.proofs.FoundMoves.{so_with}
use Rattle.lrdecided.proofs.moves.back.Goals as goal

pub states_before-requires-clause-incoming : goal.states_before-requires-clause-incoming
states_before-requires-clause-incoming c = rw c.as_slice-incoming.ensures.value c.requires.ways.incoming

pub returns : goal.returns
returns c =
    let a = node_of c.args.node.now in
    let d = c.in-Some.dot.0 in
    let e = c.in-Some-dot_before.others.0 in
    rule.Proceeds.back d e (states_of c.in_ok-states.states.items) c.in-Some.ensures c.in-Some-dot_before.ensures (rw c.as_slice-after.ensures.value at c.in_ok-states.ensures)
    (added node_of _ _ _ c.in_ok-push.ensures.items _
    (so_with (side_of c.in_ok-one.one) (side_of c.in_ok-other.other) (record (a.one) { dot = d }) (record (a.other) { dot = e })
    (states_of c.in_ok-states.states.items) (next_of c.args.node.now.next) c.args.node.now.left c.in_ok-one.ensures c.in_ok-other.ensures))
