-- those of the productions so far are there
use Rattle.std.proofs.Common.{◌≡◌, filter}
use Rattle.std.specs.List.{range_with_len}
use Rattle.lrfindings.specs.ReachedStates.{is_unreduced}
use Rattle.lrfindings.proofs.reached.unreduced_of.Given as goal

abbrev pub invariant-loop-production : goal.invariant-loop-production
invariant-loop-production l = l.unreduced.items ≡ filter (is_unreduced l.grm.start_production l.reduced) (range_with_len 0 l.production)
