-- those of the pairs so far are there
use Rattle.std.proofs.Common.{◌≡◌, filter, take}
use Rattle.lrgrammar.specs.Bits.{bit}
use Rattle.lrfindings.proofs.reached.reduced_in.Given as goal

abbrev pub invariant-loop-one : goal.invariant-loop-one
invariant-loop-one l = l.kept.items ≡ filter (λ m. bit l.marks m.0) (take l.one-index l.reduced)
