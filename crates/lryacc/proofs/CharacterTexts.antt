-- bytes that are told by three octal digits, and by letters
use Rattle.std.proofs.Common.{◌≡◌, ◌≢◌, Result, Ok, Err, IfOk, subst, ◌⊎◌, inl, inr, ℕ, zero, suc, ◌+◌, ◌-◌, ◌/◌, ◌%◌, ◌==◌, ◌^◌, ◌<◌, ◌≤◌, cond, Bool, true, false, List, [], ◌∷◌, refl, ap, sym, ◌∙◌, arith}
use Rattle.std.proofs.lemmas.Bool.{cases_order}
use Rattle.std.proofs.lemmas.Bool.Decides.{nat_tests}
use Rattle.std.specs.Fmt.{char_count, digit_glyph, digits, digits_onto, format_spec, padded_integral}
use borrow.Author.Tests.{eq-eqb, ne_eqb}
use Rattle.lryacc.specs.NamedSymbols.{IsCharacterText, octal_digits}
use Rattle.lryacc.specs.Quotes.{IsLetterFor}
use Rattle.lryacc.specs.Quotes.IsLetterFor.{alert, backspace, backslash, carriage_return, double_quote, form_feed, line_feed, question_mark, single_quote, tab, vertical_tab}

-- ---- octal digits

-- a further digit
spelled : (n k : ℕ) (acc : List ℕ) (is_last : Bool) → (n / 8 == 0) ≡ is_last
    → digits_onto (suc k) 8 false n acc
    ≡ cond is_last (digit_glyph false (n % 8) ∷ acc) (digits_onto k 8 false (n / 8) (digit_glyph false (n % 8) ∷ acc))
spelled n k acc is_last is =
    ap (λ (b : Bool). cond b (digit_glyph false (n % 8) ∷ acc) (digits_onto k 8 false (n / 8) (digit_glyph false (n % 8) ∷ acc))) is

last-digit : (n i : ℕ) (acc : List ℕ) → 0 < i → n / 8 ≡ 0 → digits_onto i 8 false n acc ≡ digit_glyph false (n % 8) ∷ acc
last-digit n zero acc some is = absurd (omega arith)
last-digit n (suc k) acc some is = spelled n k acc true (eq-eqb _ 0 is)

next-digit : (n i : ℕ) (acc : List ℕ) → 0 < i → n / 8 ≢ 0
    → digits_onto i 8 false n acc ≡ digits_onto (i - 1) 8 false (n / 8) (digit_glyph false (n % 8) ∷ acc)
next-digit n zero acc some more = absurd (omega arith)
next-digit n (suc k) acc some more =
    spelled n k acc false (ne_eqb _ 0 more)
    ∙ ap (λ (j : ℕ). digits_onto j 8 false (n / 8) (digit_glyph false (n % 8) ∷ acc)) {x = k} {y = suc k - 1} (omega arith)

all-digits : (n : ℕ) → digits_onto 64 8 false n [] ≡ digits 8 false n
unfolding digits
all-digits n = refl

glyph : (n : ℕ) → n < 8 → digit_glyph false n ≡ 48 + n
glyph n small = grind (arith, nat_tests)

-- one digit
one_digit : (n : ℕ) → n < 8 → digits 8 false n ≡ (48 + n) ∷ []
one_digit n small =
    let same : n % 8 ≡ n = omega arith in
    let last = last-digit n 64 [] (omega arith) (omega arith) in
    sym (all-digits n) ∙ last ∙ ap (λ d. digit_glyph false d ∷ []) same ∙ ap (λ d. d ∷ []) (glyph n small)

-- two of them
two_digits : (n : ℕ) → 8 ≤ n → n < 64 → digits 8 false n ≡ (48 + n / 8) ∷ (48 + n % 8) ∷ []
two_digits n large small =
    let high : n / 8 % 8 ≡ n / 8 = omega arith in
    let step = next-digit n 64 [] (omega arith) (omega arith) in
    let last = last-digit (n / 8) 63 (digit_glyph false (n % 8) ∷ []) (omega arith) (omega arith) in
    let one : digit_glyph false (n / 8 % 8) ≡ 48 + n / 8 = rw high (glyph (n / 8) (omega arith)) in
    let other : digit_glyph false (n % 8) ≡ 48 + n % 8 = glyph (n % 8) (omega arith) in
    sym (all-digits n) ∙ step ∙ last ∙ rw (one, other) refl

-- three of them
three_digits : (n : ℕ) → 64 ≤ n → n < 512 → digits 8 false n ≡ octal_digits n
three_digits n large small =
    let high : n / 8 / 8 % 8 ≡ n / 64 = omega arith in
    let step = next-digit n 64 [] (omega arith) (omega arith) in
    let next = next-digit (n / 8) 63 (digit_glyph false (n % 8) ∷ []) (omega arith) (omega arith) in
    let last = last-digit (n / 8 / 8) 62 (digit_glyph false (n / 8 % 8) ∷ digit_glyph false (n % 8) ∷ [])
    (omega arith) (omega arith) in
    let one : digit_glyph false (n / 8 / 8 % 8) ≡ 48 + n / 64 = rw high (glyph (n / 64) (omega arith)) in
    let other : digit_glyph false (n / 8 % 8) ≡ 48 + n / 8 % 8 = glyph (n / 8 % 8) (omega arith) in
    let third : digit_glyph false (n % 8) ≡ 48 + n % 8 = glyph (n % 8) (omega arith) in
    sym (all-digits n) ∙ step ∙ next ∙ last ∙ rw (one, other, third) refl

-- with zeros before one of them
one-padded : (n : ℕ) → n < 8
    → padded_integral (format_spec 32 0 4 3 (2 ^ 64 - 1)) false [] (digits 8 false n) ≡ octal_digits n
unfolding padded_integral char_count
one-padded n small =
    let high : n / 64 ≡ 0 = omega arith in
    let next : n / 8 % 8 ≡ 0 = omega arith in
    let low : n % 8 ≡ n = omega arith in
    rw (one_digit n small, high, next, low)

two-padded : (n : ℕ) → 8 ≤ n → n < 64
    → padded_integral (format_spec 32 0 4 3 (2 ^ 64 - 1)) false [] (digits 8 false n) ≡ octal_digits n
unfolding padded_integral char_count
two-padded n large small =
    let high : n / 64 ≡ 0 = omega arith in
    let next : n / 8 % 8 ≡ n / 8 = omega arith in
    rw (two_digits n large small, high, next)

three-padded : (n : ℕ) → 64 ≤ n → n < 512
    → padded_integral (format_spec 32 0 4 3 (2 ^ 64 - 1)) false [] (digits 8 false n) ≡ octal_digits n
unfolding padded_integral char_count
three-padded n large small = rw (three_digits n large small)

below : (n k : ℕ) → (n < k) ⊎ (k ≤ n)
below n k =
    elim (cases_order n k) [
      | inl same ↦ inr (omega arith)
      | inr (inl less) ↦ inl less
      | inr (inr more) ↦ inr (omega arith)
    ]

-- what `{:03o}` writes of a byte
pub octal_byte : (n : ℕ) → n < 256
    → padded_integral (format_spec 32 0 4 3 (2 ^ 64 - 1)) false [] (digits 8 false n) ≡ octal_digits n
octal_byte n small =
    elim (below n 8) [
      | inl one ↦ one-padded n one
      | inr some ↦ elim (below n 64) [
        | inl two ↦ two-padded n some two
        | inr three ↦ three-padded n three (omega arith)
      ]
    ]

-- ---- texts

-- letters are ASCII
pub letter-small : (letter byte : ℕ) → IsLetterFor letter byte → letter < 128
letter-small letter byte alert = omega arith
letter-small letter byte backspace = omega arith
letter-small letter byte tab = omega arith
letter-small letter byte line_feed = omega arith
letter-small letter byte vertical_tab = omega arith
letter-small letter byte form_feed = omega arith
letter-small letter byte carriage_return = omega arith
letter-small letter byte double_quote = omega arith
letter-small letter byte single_quote = omega arith
letter-small letter byte question_mark = omega arith
letter-small letter byte backslash = omega arith

-- what is made is such a text
pub told : {T E : Type 0} (found : Result T E) (bytes_of : T → List ℕ) (byte : ℕ) (bytes : List ℕ) → IsCharacterText byte bytes
    → IfOk found (λ text. bytes_of text ≡ bytes) → IfOk found (λ text. IsCharacterText byte (bytes_of text))
told (Err error) bytes_of byte bytes is same = tt
told (Ok text) bytes_of byte bytes is same = subst (IsCharacterText byte) (sym same) is
