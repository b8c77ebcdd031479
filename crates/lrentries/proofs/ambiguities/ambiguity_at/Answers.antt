use Rattle.lrentries.proofs.NumberedTexts.{HasMovesOf, numbered, parts}
use Rattle.lrentries.proofs.ambiguities.ambiguity_at.Goals as goal

has_moves : (c : goal.In_ok-ambiguity-in-Some) → HasMovesOf c.in-Some.proved c.in_ok-ambiguity-in-Some.field-0
has_moves c = let known = c.in_ok-ambiguity-in-Some.ensures in record {
  tokens = known.tokens;
  before = known.before;
  one = known.one;
  other = known.other;
  form_before = known.form_before;
  form_one = known.form_one;
  form_other = known.form_other;
}

pub returns-in_ok-ambiguity-in-Some-clause-trees : goal.returns-in_ok-ambiguity-in-Some-clause-trees
returns-in_ok-ambiguity-in-Some-clause-trees c =
    numbered c.args.reasons.now.grammar c.args.reasons.now.graph c.args.conflict c.in-Some.proved c.in_ok-ambiguity-in-Some.field-0
    (rw c.in-Some.is at c.in_ok-proved.ensures.proof) (has_moves c) (rw c.in-Some.is at c.in_ok-proved.ensures.differ)

pub returns-in_ok-ambiguity-in-Some-clause-parts : goal.returns-in_ok-ambiguity-in-Some-clause-parts
returns-in_ok-ambiguity-in-Some-clause-parts c =
    parts c.args.reasons.now.grammar c.args.reasons.now.graph c.args.conflict c.in-Some.proved c.in_ok-ambiguity-in-Some.field-0
    (rw c.in-Some.is at c.in_ok-proved.ensures.proof) (has_moves c)
