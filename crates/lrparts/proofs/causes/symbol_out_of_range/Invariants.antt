use Rattle.std.proofs.Common.{◌<◌, ℕ, get_or}
use Rattle.lrtext.specs.declared.parts.PartProd.{PartProd}
use Rattle.lrspec.specs.texts.Parts.{HasOutOfRange}
use Rattle.lrtext.specs.StoredParts.{parts_of, part_production_of}
use Rattle.lrparts.proofs.causes.symbol_out_of_range.Given as goal

abbrev pub invariant-loop-prod : goal.invariant-loop-prod
invariant-loop-prod l =
    (k : ℕ) (d : PartProd) → k < l.prod-index → HasOutOfRange (parts_of l.parts) (part_production_of (get_or l.parts.prods.items k d)) → ⊥
