use Rattle.lrspec.specs.texts.Parts.{HasOutOfRange}
use Rattle.lrtext.specs.StoredParts.{parts_of, part_production_of}
use Rattle.lrparts.proofs.Images.{any_image, no_image, none_more}
use Rattle.lrparts.proofs.TruthTests.{true_if, false_if, holds_if, fails_if}
use Rattle.lrparts.proofs.causes.symbol_out_of_range.Goals as goal

pub returns-then-has_out_of_range : goal.returns-then-has_out_of_range
returns-then-has_out_of_range c =
    true_if (any_image part_production_of (HasOutOfRange (parts_of c.args.parts.now)) c.args.parts.now.prods.items _ _ c.prod-item.result c.deref-prod-items.ensures.value c.loop-prod-test.true c.prod-item.is (holds_if c.has_out_of_range.ensures c.if-has_out_of_range.true))

pub returns : goal.returns
returns c =
    false_if (no_image part_production_of (HasOutOfRange (parts_of c.args.parts.now)) c.args.parts.now.prods.items _ _ c.deref-prod-items.ensures.value c.loop-prod-test.false c.loop-prod.invariant)

-- nothing is out of range in the production of the turn
pub loop-prod-preserved : goal.loop-prod-preserved
loop-prod-preserved c =
    none_more part_production_of (HasOutOfRange (parts_of c.args.parts.now)) c.args.parts.now.prods.items _ _ c.prod-item.result c.deref-prod-items.ensures.value c.loop-prod-test.true c.prod-item.is c.loop-prod.invariant (fails_if c.has_out_of_range.ensures c.if-has_out_of_range.false)
