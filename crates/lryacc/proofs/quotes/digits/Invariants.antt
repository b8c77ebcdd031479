use Rattle.std.proofs.Common.{◌≡◌, ◌-◌, ◌^◌, min, slice_range}
use Rattle.std.specs.Str.Parse.{AllDigits, digits_value}
use Rattle.lryacc.proofs.quotes.digits.Given as goal

abbrev pub invariant-loop-at : goal.invariant-loop-at
invariant-loop-at l = AllDigits l.radix (slice_range l.text l.from l.at)
    × (l.value ≡ min (digits_value l.radix (slice_range l.text l.from l.at)) (2 ^ 32 - 1))
