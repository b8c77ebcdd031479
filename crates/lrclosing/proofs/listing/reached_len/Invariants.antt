use Rattle.std.proofs.Common.{ℕ, drop}
use Rattle.std.specs.Option.{IsSome}
use Rattle.lrspec.proofs.grammars.ListMembers.{Among}
use Rattle.lrclosing.specs.Leads.{rows_in}
use Rattle.lrclosing.specs.Rows.{row_at}
use Rattle.lrclosing.proofs.listing.reached_len.Given as goal

abbrev pub invariant-loop-place : goal.invariant-loop-place
invariant-loop-place g l = (r : ℕ) → Among r (drop l.place-index l.place-items) → IsSome (row_at (rows_in l.closer.rows.items) r)
