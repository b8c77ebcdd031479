-- of what either text shows
use Rattle.lrentries.specs.Losses.{IsFoundLoss}
use Rattle.lrevidence.specs.Ambiguities.{HasTwoTrees, PartsAt}
use Rattle.lrevidence.proofs.Boxes.{either_so}
use Rattle.lrevidence.proofs.texts.shown_by_example.Goals as goal

pub returns-clause-trees : goal.returns-clause-trees
returns-clause-trees c =
    rw c.or.ensures
    (either_so (HasTwoTrees c.args.searches.now.reasons.grammar) _ _ c.in_ok-first.ensures.trees c.in_ok-second.ensures.trees)

pub returns-clause-parts : goal.returns-clause-parts
returns-clause-parts c =
    let reasons = c.args.searches.now.reasons in
    rw c.or.ensures
    (either_so (PartsAt reasons.grammar reasons.graph c.args.conflict.state.0 c.args.conflict.token.0) _ _ c.in_ok-first.ensures.parts c.in_ok-second.ensures.parts)

pub returns-clause-lost : goal.returns-clause-lost
returns-clause-lost c =
    rw c.or-2.ensures
    (either_so (IsFoundLoss c.args.searches.now.losses c.args.conflict.state.0 c.args.conflict.token.0) _ _ c.in_ok-first.ensures.lost c.in_ok-second.ensures.lost)
