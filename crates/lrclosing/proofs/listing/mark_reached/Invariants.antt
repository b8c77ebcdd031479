use Rattle.std.proofs.Common.{drop}
use Rattle.lrclosing.specs.Leads.{rows_in}
use Rattle.lrclosing.proofs.ProductionsWithRows.{ArePutInBut}
use Rattle.lrclosing.proofs.listing.mark_reached.Given as goal

abbrev pub invariant-loop-place : goal.invariant-loop-place
invariant-loop-place g l = ArePutInBut (drop l.place-index l.place-items) l.grm (rows_in l.closer.rows.items) l.range.0 l.bits
