use Rattle.std.proofs.Common.{map, ap, ◌∙◌, inl, inr, ⊎_elim}
use Rattle.lrspec.specs.texts.Parts.{HasDouble, names_of}
use Rattle.lrtext.specs.StoredParts.{parts_of}
use Rattle.lrparts.proofs.TruthTests.{true_if, holds_if, fails_if, same_test, test_along}
use Rattle.lrparts.proofs.doubles.duplicate_name.Goals as goal

pub returns-then-in_rules : goal.returns-then-in_rules
returns-then-in_rules c =
    true_if (inl (holds_if (test_along HasDouble (ap (map (λ n. n.now)) c.deref.ensures.value ∙ c.in_ok-rules.ensures) c.in_ok-in_rules.ensures) c.if-in_rules.true))

pub returns : goal.returns
returns c =
    let ps = parts_of c.args.parts.now in
    let in_rules = test_along HasDouble (ap (map (λ n. n.now)) c.deref.ensures.value ∙ c.in_ok-rules.ensures) c.in_ok-in_rules.ensures in
    same_test inr (⊎_elim (λ (r : HasDouble ps.rules). absurd (fails_if in_rules c.if-in_rules.false r)) (λ (t : HasDouble (names_of ps.tokens)). t))
    (test_along HasDouble (ap (map (λ n. n.now)) c.deref-2.ensures.value ∙ c.in_ok-tokens.ensures) c.in_ok-in_tokens.ensures)
