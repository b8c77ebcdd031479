-- the productions so far
use Rattle.std.proofs.Common.{◌≡◌, ◌++◌}
use Rattle.std.specs.List.{flat_map, range_with_len}
use Rattle.lrflat.specs.Flat.{production_pair}
use Rattle.lrflat.proofs.flat.push_productions.Given as goal

abbrev pub invariant-loop-production : goal.invariant-loop-production
invariant-loop-production g l = l.flat.items ≡ l.initial.flat.items ++ flat_map (production_pair l.grm) (range_with_len 0 l.production)
