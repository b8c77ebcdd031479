-- places are in order by their numbers
use Rattle.std.proofs.Common.{refl}
use Rattle.lrsearches.proofs.TrailsInTurn.{need_kinds}
use Rattle.lrsearches.proofs.search.insert_place.Goals as goal

pub returns-clause-needs : goal.returns-clause-needs
returns-clause-needs g c = need_kinds g.T.Ord.cmp _ refl (λ p d. refl) (λ p d. refl) (λ p q d e. refl)

pub returns-clause-order : goal.returns-clause-order
returns-clause-order g c = λ a b. refl
