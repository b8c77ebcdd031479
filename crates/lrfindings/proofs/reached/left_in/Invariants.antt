-- those of the entries so far are there
use Rattle.std.proofs.Common.{◌≡◌, filter, take}
use Rattle.lrgrammar.specs.Bits.{bit}
use Rattle.lrfindings.proofs.reached.left_in.Given as goal

abbrev pub invariant-loop-entry : goal.invariant-loop-entry
invariant-loop-entry l = l.left.items ≡ filter (λ e. bit l.marks e.state) (take l.entry-index l.entries)
