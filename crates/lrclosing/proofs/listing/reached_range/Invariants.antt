use Rattle.std.proofs.Common.{drop}
use Rattle.lrclosing.specs.Leads.{rows_in}
use Rattle.lrclosing.proofs.ProductionsWithRows.{IsRangeBut}
use Rattle.lrclosing.proofs.listing.reached_range.Given as goal

abbrev pub invariant-loop-place : goal.invariant-loop-place
invariant-loop-place g l = IsRangeBut (drop l.place-index l.place-items) l.grm (rows_in l.closer.rows.items) l.range
