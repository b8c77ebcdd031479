-- the entries in the columns so far
use Rattle.std.proofs.Common.{get_or}
use Rattle.lrsparse.proofs.RowSoFar.{IsRowSoFar}
use Rattle.lrsparse.proofs.builder.entries_of.Given as goal

abbrev pub invariant-loop-column : goal.invariant-loop-column
invariant-loop-column l = IsRowSoFar l.empty (λ c. get_or l.numbers c l.empty) l.column l.entries.items
