-- types that are read byte by byte
use Rattle.std.proofs.Common.{◌≡◌, ◌≢◌, ℕ, ◌+◌, ◌<◌, Bool, true, false, List, length, slice_index, refl, ap, subst, ◌∙◌, arith}
use Rattle.std.proofs.lemmas.Bool.Decides.{nat_tests}
use Rattle.lryacc.specs.RuleTypes.{IsInType, is_mark}
use Rattle.lryacc.specs.RuleTypes.IsInType.{byte, colons}
use Rattle.lryacc.specs.TypesRead.{IsSecondColon, IsTypeUpTo}

-- the first colon of `::`
pub first-colon : (text : List ℕ) (from at depth : ℕ) → IsInType text from at depth → at + 1 < length text
    → slice_index text at ≡ 58 → slice_index text (at + 1) ≡ 58 → IsSecondColon text from (at + 1) depth
first-colon text from at depth between inside one other =
    record { first = at; behind = refl; inside = inside; between = between; colons = record { one = one; other = other } }

-- the second one
pub second-colon : (text : List ℕ) (from at depth : ℕ) → IsSecondColon text from at depth → IsInType text from (at + 1) depth
second-colon text from at depth up =
    let end : up.first + 2 ≡ at + 1 = omega (arith, up.behind) in
    subst (λ place. IsInType text from place depth) end (colons up.between up.colons)

-- no colon is the second one
pub no-second : (is : Bool) (text : List ℕ) (from at depth : ℕ) → IsTypeUpTo is text from at depth
    → slice_index text at ≢ 58 → IsInType text from at depth
no-second false text from at depth up apart = up
no-second true text from at depth up apart = absurd (apart (ap (slice_index text) up.behind ∙ up.colons.other))

-- none stands behind the text
pub at-end : (is : Bool) (text : List ℕ) (from at depth : ℕ) → IsTypeUpTo is text from at depth
    → at ≡ length text → IsInType text from at depth
at-end false text from at depth up all = up
at-end true text from at depth up all =
    let inside = up.inside in
    absurd (omega arith)

-- a byte that is no mark
pub plain : (text : List ℕ) (from at depth : ℕ) → IsInType text from at depth → slice_index text at ≢ 58
    → slice_index text at ≢ 59 → slice_index text at ≢ 91 → slice_index text at ≢ 93 → IsInType text from (at + 1) depth
plain text from at depth between no_colon no_end no_opening no_closing =
    let no_mark : is_mark (slice_index text at) ≡ false = grind (arith, nat_tests) in
    byte between no_mark
