use Rattle.std.proofs.Common.{◌<◌, length, arith}
use Rattle.std.proofs.lemmas.List.{length-map}
use Rattle.lrtext.specs.StoredParts.{part_production_of, part_symbol_of}
use Rattle.lrparts.proofs.Images.{any_image, no_image, none_more}
use Rattle.lrparts.proofs.TruthTests.{true_if, false_if}
use Rattle.lrparts.proofs.causes.body_too_long.Goals as goal

pub returns-then-len-most : goal.returns-then-len-most
returns-then-len-most c =
    let prod = c.prod-item.result in
    true_if (any_image part_production_of (λ p. c.args.most < length p.body) c.args.parts.now.prods.items _ _ prod c.deref-prod-items.ensures.value c.loop-prod-test.true c.prod-item.is (omega (arith, length-map prod.symbols.items part_symbol_of)))

pub returns : goal.returns
returns c =
    false_if (no_image part_production_of (λ p. c.args.most < length p.body) c.args.parts.now.prods.items _ _ c.deref-prod-items.ensures.value c.loop-prod-test.false c.loop-prod.invariant)

-- the body of the turn is not too long
pub loop-prod-preserved : goal.loop-prod-preserved
loop-prod-preserved c =
    let prod = c.prod-item.result in
    none_more part_production_of (λ p. c.args.most < length p.body) c.args.parts.now.prods.items _ _ prod c.deref-prod-items.ensures.value c.loop-prod-test.true c.prod-item.is c.loop-prod.invariant (λ h. omega (arith, h, length-map prod.symbols.items part_symbol_of))
