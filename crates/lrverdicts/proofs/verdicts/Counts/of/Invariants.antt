use Rattle.std.proofs.Common.{◌≡◌, ◌+◌, take}
use Rattle.lrverdicts.specs.Verdicts.{counts_of}
use Rattle.lrverdicts.proofs.verdicts.Counts.of.Given as goal

abbrev pub invariant-loop-entry : goal.invariant-loop-entry
invariant-loop-entry l =
    (l.counts ≡ counts_of (take l.entry-index l.entries)) × (l.counts.shift_reduce + l.counts.reduce_reduce ≡ l.entry-index)
