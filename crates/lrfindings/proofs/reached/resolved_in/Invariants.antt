-- those of what is resolved so far are there
use Rattle.std.proofs.Common.{◌≡◌, filter, take}
use Rattle.lrgrammar.specs.Bits.{bit}
use Rattle.lrfindings.proofs.reached.resolved_in.Given as goal

abbrev pub invariant-loop-one : goal.invariant-loop-one
invariant-loop-one l = l.kept.items ≡ filter (λ r. bit l.marks r.entry.state) (take l.one-index l.resolved)
