use Rattle.std.proofs.Common.{◌≡◌, ℕ, ◌<◌, get_or}
use Rattle.std.specs.Int.RustNames.{bit_and}
use Rattle.lrbits.proofs.vob.words_intersect.Given as goal

abbrev pub invariant-loop-i : goal.invariant-loop-i
invariant-loop-i l = (k : ℕ) → k < l.i → bit_and (get_or l.words k 0) (get_or l.other k 0) ≡ 0
