-- the edges of the states so far are there
use Rattle.lrsearches.proofs.RowsInTurn.{AreIncomingBelow}
use Rattle.lrsearches.proofs.ways.incoming.Given as goal

abbrev pub invariant-loop-state : goal.invariant-loop-state
invariant-loop-state g l = AreIncomingBelow g.T.IndexStorage.number l.graph l.state l.incoming.items
