use Rattle.std.proofs.Common.{ap, ◌∙◌}
use Rattle.lrplacing.proofs.CandidateFacts.{stored_or_empty, stored_listed}
use Rattle.lrplacing.proofs.candidates.Candidates.at.Goals as goal

pub returns-in-Some : goal.returns-in-Some
returns-in-Some c =
    rw (← c.self.view_is) (c.as_slice.ensures.value ∙ ap stored_or_empty c.in-Some.ensures.value ∙ stored_listed c.self.inside.lists.entries c.args.fingerprint)

pub returns-in-None : goal.returns-in-None
returns-in-None c =
    rw (← c.self.view_is) (ap stored_or_empty c.in-None.ensures.value ∙ stored_listed c.self.inside.lists.entries c.args.fingerprint)
