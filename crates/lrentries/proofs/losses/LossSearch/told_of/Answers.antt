-- as it is asked
use Rattle.lrentries.proofs.losses.LossSearch.told_of.Goals as goal

pub returns-then-not-must_be_doomed : goal.returns-then-not-must_be_doomed
returns-then-not-must_be_doomed c = (c.in-Some.is, λ asked. let wrong = rw c.if-not-must_be_doomed.true at asked in absurd (cc))

pub returns : goal.returns
returns c = (c.in-Some.is, λ asked. c.in_ok-is_known.ensures c.if-not-is_known.false)
