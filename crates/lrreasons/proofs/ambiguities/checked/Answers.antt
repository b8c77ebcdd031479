use Rattle.lrreasons.proofs.ambiguities.checked.Goals as goal

pub returns-in-Some-2-clause-form : goal.returns-in-Some-2-clause-form
returns-in-Some-2-clause-form c = c.in_ok-derives_twice.ensures.form c.if-not-branch.false

pub returns-in-Some-2-clause-form_parts : goal.returns-in-Some-2-clause-form_parts
returns-in-Some-2-clause-form_parts c = c.in_ok-derives_twice.ensures.parts c.if-not-branch.false
