-- digits that are read one behind another, and escapes
use Rattle.std.proofs.Common.{◌≡◌, ◌≢◌, Option, Some, None, IfSome, ℕ, ◌+◌, ◌-◌, ◌*◌, ◌<◌, ◌≤◌, List, drop, get_or, length, length-drop, min, slice_index, slice_range, subst, sym, ap, ◌∙◌, arith}
use Rattle.std.proofs.lemmas.Int.Digits.{digits_more, digits_value_more}
use Rattle.std.proofs.lemmas.List.{get_or-drop}
use Rattle.std.proofs.lemmas.Nat.{mul-le}
use Rattle.std.proofs.lemmas.Bool.Decides.{nat_tests}
use Rattle.std.specs.Char.{digit_value}
use Rattle.std.specs.Str.Parse.{AllDigits, digits_value}
use Rattle.lryacc.specs.Quotes.{AreDigits, IsEscape, IsLetterFor, IsNoDigit}
use Rattle.lryacc.specs.QuotesRead.{IsCapped}
use Rattle.lryacc.specs.Quotes.IsEscape.{hexadecimal, letter, long, octal, short}

-- the digit at a place
here : (text : List ℕ) (from at : ℕ) → from ≤ at → get_or (drop from text) (at - from) 0 ≡ slice_index text at
here text from at ordered =
    let place : from + (at - from) ≡ at = omega arith in
    get_or-drop from text (at - from) 0 ∙ ap (slice_index text) place

-- one more of them
pub one-more : (radix : ℕ) (text : List ℕ) (from at : ℕ) → from ≤ at → at < length text
    → AllDigits radix (slice_range text from at) → digit_value (slice_index text at) < radix
    → AllDigits radix (slice_range text from (at + 1))
one-more radix text from at ordered inside all digit =
    let next : (at + 1) - from ≡ (at - from) + 1 = omega arith in
    rw next (digits_more radix (drop from text) (at - from) (omega (arith, length-drop from text)) all
    (rw (here text from at ordered) digit))

-- the number that they are with it
pub value-more : (radix : ℕ) (text : List ℕ) (from at : ℕ) → from ≤ at → at < length text
    → digits_value radix (slice_range text from (at + 1))
    ≡ digits_value radix (slice_range text from at) * radix + digit_value (slice_index text at)
value-more radix text from at ordered inside =
    let next : (at + 1) - from ≡ (at - from) + 1 = omega arith in
    rw (next, ← here text from at ordered)
    (digits_value_more radix (drop from text) (at - from) (omega (arith, length-drop from text)))

-- a number that is capped stays so
pub capped-more : (value number radix digit most : ℕ) → 0 < radix → value ≡ min number most
    → min (min (value * radix) most + digit) most ≡ min (number * radix + digit) most
capped-more value number radix digit most some capped =
    let same : value ≡ number → value * radix ≡ number * radix = λ e. ap (λ n. n * radix) e in
    let value_grows : most * 1 ≤ value * radix → most ≤ value * radix = λ h. omega arith in
    let values : most ≤ value → most ≤ value * radix = λ h. value_grows (mul-le most 1 value radix h some) in
    let number_grows : most * 1 ≤ number * radix → most ≤ number * radix = λ h. omega arith in
    let numbers : most ≤ number → most ≤ number * radix = λ h. number_grows (mul-le most 1 number radix h some) in
    grind (arith, same, values, numbers)

-- what is capped is so as another thing of the same number
capped-as : (Is Other : ℕ → Type 0) (number : ℕ) → ((exact : ℕ) → Is exact → Other exact)
    → IsCapped number Is → IsCapped number Other
capped-as Is Other number other capped = record { exact = capped.exact; is = other capped.exact capped.is; capped = capped.capped }

-- ---- escapes

-- a letter
pub letter-escape : (text : List ℕ) (from mark byte number : ℕ) → mark ≡ slice_index text (from + 1)
    → IsLetterFor mark byte → byte ≡ number → number ≤ 255 → IsCapped number (IsEscape text from (from + 2))
letter-escape text from mark byte number is for same small =
    let found = subst (λ mark. IsLetterFor mark byte) is for in
    record { exact = number; is = letter (subst (IsLetterFor (slice_index text (from + 1))) same found); capped = omega arith }

-- octal digits
pub octal-escape : (text : List ℕ) (from end number : ℕ) → IsCapped number (AreDigits 8 text (from + 1) end)
    → from + 1 < end → end ≤ from + 1 + 3 → (end < from + 1 + 3 → IsNoDigit 8 text end)
    → IsCapped number (IsEscape text from end)
octal-escape text from end number digits some few all =
    capped-as (AreDigits 8 text (from + 1) end) (IsEscape text from end) number
    (λ exact is. octal is some (omega arith) (λ less. all (omega arith))) digits

-- at least one where the first byte is an octal digit
pub some-digit : (mark from end : ℕ) → 48 ≤ mark → mark ≤ 55 → from ≤ end → (from ≡ end → 8 ≤ digit_value mark) → from < end
some-digit mark from end low high ordered none =
    let small : digit_value mark < 8 = grind (arith, nat_tests) in
    let apart : from ≢ end = λ same. let large : 8 ≤ digit_value mark = none same in omega arith in
    omega arith

-- hexadecimal digits behind `x`
pub hexadecimal-escape : (text : List ℕ) (from mark : ℕ) (found : Option (ℕ × ℕ)) → mark ≡ slice_index text (from + 1)
    → mark ≡ 120 → IfSome found (λ found. found.1 ≤ length text) → IfSome found (λ found. from + 2 + 1 ≤ found.1)
    → IfSome found (λ found. found.1 < from + 2 + length text → IsNoDigit 16 text found.1)
    → IfSome found (λ found. IsCapped found.0 (AreDigits 16 text (from + 2) found.1))
    → IfSome found (λ found. IsCapped found.0 (IsEscape text from found.1))
hexadecimal-escape text from mark None here is inside some all digits = tt
hexadecimal-escape text from mark (Some found) here is inside some all digits =
    let x : slice_index text (from + 1) ≡ 120 = sym here ∙ is in
    let end : IsNoDigit 16 text found.1 = all (omega arith) in
    capped-as (AreDigits 16 text (from + 2) found.1) (IsEscape text from found.1) found.0
    (λ exact is. hexadecimal x is (omega arith) end) digits

-- four of them behind `u`
pub short-escape : (text : List ℕ) (from mark : ℕ) (found : Option (ℕ × ℕ)) → mark ≡ slice_index text (from + 1)
    → mark ≡ 117 → IfSome found (λ found. from + 2 + 4 ≤ found.1) → IfSome found (λ found. found.1 ≤ from + 2 + 4)
    → IfSome found (λ found. IsCapped found.0 (AreDigits 16 text (from + 2) found.1))
    → IfSome found (λ found. IsCapped found.0 (IsEscape text from found.1))
short-escape text from mark None here is low high digits = tt
short-escape text from mark (Some found) here is low high digits =
    let u : slice_index text (from + 1) ≡ 117 = sym here ∙ is in
    let end : from + 6 ≡ found.1 = omega arith in
    subst (λ end. IsCapped found.0 (IsEscape text from end)) end
    (capped-as (AreDigits 16 text (from + 2) (from + 6)) (IsEscape text from (from + 6)) found.0
    (λ exact is. short u is) (subst (λ end. IsCapped found.0 (AreDigits 16 text (from + 2) end)) (sym end) digits))

-- eight of them behind `U`
pub long-escape : (text : List ℕ) (from mark : ℕ) (found : Option (ℕ × ℕ)) → mark ≡ slice_index text (from + 1)
    → mark ≡ 85 → IfSome found (λ found. from + 2 + 8 ≤ found.1) → IfSome found (λ found. found.1 ≤ from + 2 + 8)
    → IfSome found (λ found. IsCapped found.0 (AreDigits 16 text (from + 2) found.1))
    → IfSome found (λ found. IsCapped found.0 (IsEscape text from found.1))
long-escape text from mark None here is low high digits = tt
long-escape text from mark (Some found) here is low high digits =
    let u : slice_index text (from + 1) ≡ 85 = sym here ∙ is in
    let end : from + 10 ≡ found.1 = omega arith in
    subst (λ end. IsCapped found.0 (IsEscape text from end)) end
    (capped-as (AreDigits 16 text (from + 2) (from + 10)) (IsEscape text from (from + 10)) found.0
    (λ exact is. long u is) (subst (λ end. IsCapped found.0 (AreDigits 16 text (from + 2) end)) (sym end) digits))
