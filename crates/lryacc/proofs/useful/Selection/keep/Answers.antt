use Rattle.std.proofs.Common.{◌≡◌, ◌++◌, ◌∷◌, [], map, ap, ◌∙◌, refl}
use Rattle.lrgrammar.specs.StoredParts.{part_symbol_of}
use Rattle.lryacc.proofs.KeptLemmas.{new_placed-made}
use Rattle.lryacc.specs.KeptProductions.{new_symbol}
use Rattle.lryacc.specs.PlacedProductions.{PlacedProduction, placed}
use Rattle.lryacc.proofs.useful.Selection.keep.Goals as goal

pub returns-clause-added : goal.returns-clause-added
returns-clause-added c = λ is_placed rule.
    let numbers = c.args.self.now.numbers.items in
    let prod = c.args.prod.now in
    let made = c.in_ok-renumbered.field-0 in
    let body : map part_symbol_of made.items ≡ map (new_symbol numbers) (map part_symbol_of prod.symbols.items) =
    rw (← c.as_slice.ensures.value, ← c.as_slice-2.ensures.value) c.in_ok-renumbered.ensures in
    c.in_ok-add.ensures.added is_placed
    ∙ ap (λ (x : PlacedProduction). placed c.args.kept.now ++ x ∷ [])
    (new_placed-made numbers prod record { rule = c.args.rule; symbols = made; precedence = prod.precedence } c.args.place c.in_ok-from_slice.field-0.items c.args.symbol_places.now rule body refl c.in_ok-from_slice.ensures.items)
