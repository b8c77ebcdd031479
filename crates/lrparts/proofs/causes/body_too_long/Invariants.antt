use Rattle.std.proofs.Common.{◌<◌, ℕ, length, get_or}
use Rattle.lrtext.specs.declared.parts.PartProd.{PartProd}
use Rattle.lrtext.specs.StoredParts.{part_production_of}
use Rattle.lrparts.proofs.causes.body_too_long.Given as goal

abbrev pub invariant-loop-prod : goal.invariant-loop-prod
invariant-loop-prod l =
    (k : ℕ) (d : PartProd) → k < l.prod-index → l.most < length (part_production_of (get_or l.parts.prods.items k d)).body → ⊥
