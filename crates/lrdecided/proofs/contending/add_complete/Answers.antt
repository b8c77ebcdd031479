-- the item is complete, or is not
use Rattle.std.proofs.Common.{refl, arith}
use Rattle.lrdecided.specs.Contenders.{complete_of}
use Rattle.lrdecided.proofs.CollectedInTurn.{kept, added}
use Rattle.lrdecided.proofs.contending.add_complete.Goals as goal

pub returns-then-goes_on-clause-added : goal.returns-then-goes_on-clause-added
returns-then-goes_on-clause-added c = λ whole. absurd (omega (arith, whole, c.goes_on.ensures c.if-goes_on.true))

pub returns-clause-kept : goal.returns-clause-kept
returns-clause-kept c = kept complete_of _ _ _ c.in_ok-push.ensures.items

pub returns-clause-added : goal.returns-clause-added
returns-clause-added c = λ whole. added complete_of _ _ _ c.in_ok-push.ensures.items _ refl
