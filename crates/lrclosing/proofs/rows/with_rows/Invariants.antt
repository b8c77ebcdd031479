use Rattle.lrspec.specs.grammars.ItemSets.{Fits}
use Rattle.lrclosing.specs.ItemsOf.{items_of}
use Rattle.lrclosing.proofs.RowsAdded.{AreWithRowsBelow}
use Rattle.lrclosing.proofs.rows.with_rows.Given as goal

abbrev pub invariant-loop-place : goal.invariant-loop-place
invariant-loop-place g l =
    let number = g.T.IndexStorage.number in
    record {
      fits : Fits l.grm (items_of number l.closed.entries);
      rows : AreWithRowsBelow l.place l.grm l.rows (items_of number l.given.entries) (items_of number l.closed.entries);
    }
