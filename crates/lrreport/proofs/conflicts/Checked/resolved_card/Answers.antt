use Rattle.lrshown.specs.Ambiguities.{HasTwoTrees}
use Rattle.lrshown.specs.Losses.{IsLoss}
use Rattle.lrreport.proofs.Groups.{known_shown}
use Rattle.lrreport.proofs.conflicts.Checked.resolved_card.Goals as goal

pub returns-clause-texts : goal.returns-clause-texts
returns-clause-texts c =
    let found = c.args.self.now.found.now in
    known_shown (λ a. HasTwoTrees found.grm a.now) c.known_resolved-known.result.ambiguity c.known_resolved-known.ensures.trees

pub returns-clause-lost : goal.returns-clause-lost
returns-clause-lost c =
    let found = c.args.self.now.found.now in
    known_shown (λ l. IsLoss found.grm found.table l.now) c.known_resolved-known.result.loss c.known_resolved-known.ensures.loss
