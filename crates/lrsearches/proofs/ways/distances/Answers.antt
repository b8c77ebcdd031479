-- the states that are reached are states of the graph
use Rattle.std.proofs.Common.{◌<◌, length, arith}
use Rattle.lrsearches.proofs.ways.distances.Goals as goal

pub add_targets-requires-clause-state : goal.add_targets-requires-clause-state
add_targets-requires-clause-state g c =
    let here : c.loop-turn.turn < length c.loop-turn.reached.items = omega (arith, c.if-turn-len.false, c.len.ensures, c.loop-turn.reached.ok.0) in
    let within = c.loop-turn.invariant.within c.loop-turn.turn c.index-from.result.now here in
    rw (← c.index-from.ensures) at within

pub add_targets-requires-clause-below : goal.add_targets-requires-clause-below
add_targets-requires-clause-below g c = λ x u e. (c.requires.gotos.gotos _ u x e).below
