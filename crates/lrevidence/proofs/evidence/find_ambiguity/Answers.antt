use Rattle.lrevidence.proofs.evidence.find_ambiguity.Goals as goal

pub returns : goal.returns
returns c = rw c.in_ok-reasons.ensures.grammar at c.first_ambiguity.ensures
