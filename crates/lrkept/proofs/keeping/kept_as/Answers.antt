-- by the theorem
use Rattle.std.proofs.Common.{subst}
use Rattle.lrconflicts.specs.StoredMoves.{move_of}
use Rattle.lrlosses.specs.Losses.{Takes}
use Rattle.lrgrammar.specs.Symbols.{number_of}
use Rattle.lrkept.proofs.ExchangeKeeps.{certificate_keeps}
use Rattle.lrkept.proofs.keeping.kept_as.Goals as goal

pub returns-then-branch-clause-known : goal.returns-then-branch-clause-known
returns-then-branch-clause-known c =
    let certified = c.in_ok-is_certified.ensures.certified c.if-branch.true in
    certificate_keeps c.in_order.ensures.shape c.requires.graph c.requires.table c.requires.state certified.1
    (subst (λ a. Takes a (move_of number_of c.in-Some.ours)) c.action-action.ensures.cell c.in-Some.ensures)
