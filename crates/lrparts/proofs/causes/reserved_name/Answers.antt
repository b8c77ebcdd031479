use Rattle.std.proofs.Common.{◌≡◌, ◌∙◌, rules}
use Rattle.std.specs.Prelude.{codes}
use Rattle.std.specs.String.{string_bytes}
use Rattle.std.proofs.lemmas.Bool.{false≢true}
use Rattle.std.proofs.lemmas.Slice.Eq.{bytes_eq-Decides}
use Rattle.lrparts.proofs.Images.{any_image, no_image, none_more, Contains-from_any, any_from_Contains}
use Rattle.lrparts.proofs.TruthTests.{true_if, false_if}
use Rattle.lrparts.proofs.causes.reserved_name.Goals as goal

pub returns-then-eq : goal.returns-then-eq
returns-then-eq c =
    true_if (Contains-from_any _ _ (any_image string_bytes (λ n. n ≡ codes "^") c.args.parts.now.rules.items _ _ c.name-item.result c.deref-name-items.ensures.value c.loop-name-test.true c.name-item.is (search rules)))

pub returns : goal.returns
returns c =
    false_if (λ h. no_image string_bytes (λ n. n ≡ codes "^") c.args.parts.now.rules.items _ _ c.deref-name-items.ensures.value c.loop-name-test.false c.loop-name.invariant (any_from_Contains _ _ h))

-- the name of the turn is another
pub loop-name-preserved : goal.loop-name-preserved
loop-name-preserved c =
    none_more string_bytes (λ n. n ≡ codes "^") c.args.parts.now.rules.items _ _ c.name-item.result c.deref-name-items.ensures.value c.loop-name-test.true c.name-item.is c.loop-name.invariant
    (λ h. false≢true (c.if-eq.ensures ∙ (bytes_eq-Decides c.as_str.result.now (codes "^")).1 (c.as_str.ensures.value ∙ h)))
