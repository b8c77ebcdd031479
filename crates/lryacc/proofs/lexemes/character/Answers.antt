use Rattle.std.proofs.Common.{◌≡◌, ◌∙◌, ◌-◌, ℕ, List, [], ◌∷◌, ap, length, slice_index, subst, sym, arith}
use Rattle.lryacc.specs.Quotes.{AreQuoted}
use Rattle.lryacc.proofs.lexemes.character.Goals as goal

-- one byte alone is the last one
single : (bytes : List ℕ) (many last : ℕ) → many ≡ 1 → many ≡ length bytes → last ≡ slice_index bytes (many - 1) → bytes ≡ last ∷ []
single [] many last one is at = absurd (omega arith)
single (byte ∷ []) many last one is at =
    let none : many - 1 ≡ 0 = omega arith in
    let same : last ≡ byte = at ∙ ap (slice_index (byte ∷ [])) none in
    ap (λ (b : ℕ). b ∷ []) (sym same)
single (byte ∷ other ∷ bytes) many last one is at = absurd (omega arith)

pub returns-in-1-clause-is : goal.returns-in-1-clause-is
returns-in-1-clause-is c =
    let is = c.in_ok-end.ensures.is in
    subst (λ (bytes : List ℕ). AreQuoted 39 bytes c.args.text.now c.args.from c.in_ok-end.field-0.end)
    (single is.bytes c.in_ok-end.field-0.bytes c.in_ok-end.field-0.last c.in-1.is is.number is.last) is.are
