use Rattle.std.proofs.Common.{◌≡◌, ◌<◌, ◌++◌, ◌∷◌, [], IfOk, string_bytes, sym, ◌∙◌, arith}
use Rattle.std.proofs.lemmas.Grind.{common_steps}
use Rattle.lryacc.specs.NamedSymbols.{octal_digits}
use Rattle.lryacc.specs.NamedSymbols.IsCharacterText.{by_digits, by_itself, by_letter}
use Rattle.lryacc.proofs.CharacterTexts.{letter-small, octal_byte, told}
use Rattle.lryacc.proofs.names.character_text.Goals as goal

pub returns-then-is_plain : goal.returns-then-is_plain
returns-then-is_plain c =
    let byte = c.args.byte in
    let same : IfOk c.format.result (λ text. string_bytes text ≡ 39 ∷ byte ∷ 39 ∷ []) = grind (arith, common_steps) in
    told c.format.result (λ text. string_bytes text) byte (39 ∷ byte ∷ 39 ∷ [])
    (by_itself (sym c.is_plain.ensures ∙ c.if-is_plain.true)) same

pub returns-in-Some : goal.returns-in-Some
returns-in-Some c =
    let byte = c.args.byte in
    let letter = c.in-Some.letter in
    let small : letter < 128 = letter-small letter byte c.in-Some.ensures in
    let same : IfOk c.format-in-Some.result (λ text. string_bytes text ≡ 39 ∷ 92 ∷ letter ∷ 39 ∷ []) = grind (arith, common_steps) in
    told c.format-in-Some.result (λ text. string_bytes text) byte (39 ∷ 92 ∷ letter ∷ 39 ∷ [])
    (by_letter (sym c.is_plain.ensures ∙ c.if-is_plain.false) c.in-Some.ensures) same

pub returns-in-None : goal.returns-in-None
returns-in-None c =
    let byte = c.args.byte in
    let small : byte < 256 = omega arith in
    let same : IfOk c.format-in-None.result (λ text. string_bytes text ≡ 39 ∷ 92 ∷ (octal_digits byte ++ 39 ∷ [])) =
    grind (arith, common_steps, octal_byte byte small) in
    told c.format-in-None.result (λ text. string_bytes text) byte (39 ∷ 92 ∷ (octal_digits byte ++ 39 ∷ []))
    (by_digits (sym c.is_plain.ensures ∙ c.if-is_plain.false) c.in-None.ensures) same
