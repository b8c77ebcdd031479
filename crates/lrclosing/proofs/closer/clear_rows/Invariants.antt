-- the rows that are reached are among those that are left
use Rattle.std.proofs.Common.{drop}
use Rattle.lrspec.specs.grammars.Grammar as math
use Rattle.lrclosing.specs.Leads.{AreKeptRows}
use Rattle.lrclosing.proofs.RowsReached.{AreLeft}
use Rattle.lrclosing.proofs.closer.clear_rows.Given as goal

abbrev pub invariant-loop-place : goal.invariant-loop-place
invariant-loop-place l = record {
  left : AreLeft (drop l.place-index l.place-items) l.rows;
  kept : (g : math.Grammar) → AreKeptRows g l.fn.rows → AreKeptRows g l.rows;
}
