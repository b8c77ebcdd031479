use Rattle.lrambiguity.specs.Derivations as fold
use Rattle.lrambiguity.proofs.derivations.Fold.new.Goals as goal

pub returns-clause-folded : goal.returns-clause-folded
returns-clause-folded g c = λ m symbols. rw c.new.ensures.items fold.Folds.nothing

pub returns-clause-stack : goal.returns-clause-stack
returns-clause-stack g c = rw c.new.ensures.items
