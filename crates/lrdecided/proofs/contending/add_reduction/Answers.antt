-- the item looks at the token, or does not
use Rattle.std.proofs.Common.{refl}
use Rattle.lrconflicts.specs.StoredMoves.{move_of}
use Rattle.lrgrammar.specs.Symbols.{number_of}
use Rattle.lrdecided.proofs.CollectedInTurn.{kept, added}
use Rattle.lrdecided.proofs.contending.add_reduction.Goals as goal

pub returns-then-not-looks_at-clause-added : goal.returns-then-not-looks_at-clause-added
returns-then-not-looks_at-clause-added c = λ looks. let t = c.looks_at.ensures looks in absurd cc

pub returns-clause-kept : goal.returns-clause-kept
returns-clause-kept c = kept (move_of number_of) _ _ _ c.in_ok-push.ensures.items

pub returns-clause-added : goal.returns-clause-added
returns-clause-added c = λ looks. added (move_of number_of) _ _ _ c.in_ok-push.ensures.items _ refl
