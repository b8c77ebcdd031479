use Rattle.std.proofs.Common.{◌<◌, ℕ, get_or}
use Rattle.lrtext.specs.declared.parts.PartSymbol.{PartSymbol}
use Rattle.lrspec.specs.texts.Parts.{IsOutOfRange}
use Rattle.lrtext.specs.StoredParts.{parts_of, part_symbol_of}
use Rattle.lrparts.proofs.causes.has_symbol_out_of_range.Given as goal

abbrev pub invariant-loop-symbol : goal.invariant-loop-symbol
invariant-loop-symbol l =
    (k : ℕ) (d : PartSymbol) → k < l.symbol-index → IsOutOfRange (parts_of l.parts) (part_symbol_of (get_or l.prod.symbols.items k d)) → ⊥
