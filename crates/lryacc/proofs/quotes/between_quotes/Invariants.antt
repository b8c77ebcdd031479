use Rattle.std.proofs.Common.{◌+◌, ◌≤◌, max}
use Rattle.lryacc.specs.QuotesRead.{AreBytesUpTo}
use Rattle.lryacc.proofs.quotes.between_quotes.Given as goal

abbrev pub invariant-loop-at : goal.invariant-loop-at
invariant-loop-at l = AreBytesUpTo l.quote l.text (l.from + 1) (max l.at l.behind) l.bytes l.last
    × (l.from + 1 + l.bytes ≤ max l.at l.behind)
