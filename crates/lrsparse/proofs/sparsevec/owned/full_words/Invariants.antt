-- the words so far are wholly owned
use Rattle.std.proofs.Common.{◌*◌, ◌-◌, length}
use Rattle.lrsparse.specs.Owned.{AreOwned}
use Rattle.lrsparse.proofs.sparsevec.owned.full_words.Given as goal

abbrev pub invariant-loop-full : goal.invariant-loop-full
invariant-loop-full l = AreOwned l.words (64 * l.full)

abbrev pub decreases-loop-full : goal.decreases-loop-full
decreases-loop-full l = length l.words - l.full
