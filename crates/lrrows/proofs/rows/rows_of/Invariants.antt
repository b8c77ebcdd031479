use Rattle.lrrows.specs.RowsOf.{HaveZeros}
use Rattle.lrrows.proofs.StatesInTurn.{AreRowsBefore}
use Rattle.lrrows.proofs.rows.rows_of.Given as goal

abbrev pub invariant-loop-stidx : goal.invariant-loop-stidx
invariant-loop-stidx g l = record {
  rows : AreRowsBefore g.T.IndexStorage.number l.grm l.sg l.stidx-iterator l.rows;
  zeros : HaveZeros l.rows;
}
