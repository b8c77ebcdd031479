use Rattle.std.proofs.Common.{◌≡◌, ℕ, ◌+◌, ◌*◌, ◌<◌, ◌≤◌, ◌^◌, List, length, take, get_or, subst, sym, arith}
use Rattle.std.proofs.lemmas.Int.Digits.{digits_value_more}
use Rattle.std.proofs.lemmas.Str.Parse.{digits_value-take-le}
use Rattle.std.specs.Char.{digit_value}
use Rattle.std.specs.Str.Parse.{digits_value}
use Rattle.lryacc.proofs.numbers.value_in.Goals as goal

-- digits mean at least what those up to one of them mean
up-to : (base at : ℕ) (digits : List ℕ) → 1 ≤ base → at < length digits → digits_value base (take at digits) * base + digit_value (get_or digits at 0) ≤ digits_value base digits
up-to base at digits some below =
    subst (λ (value : ℕ). value ≤ digits_value base digits) (digits_value_more base digits at below) (digits_value-take-le base digits (at + 1) some)

-- the same, where what those mean is known by another name
least : (base value read digit whole : ℕ) → value ≡ read → read * base + digit ≤ whole → value * base + digit ≤ whole
least base value read digit whole same at_least = subst (λ (n : ℕ). n * base + digit ≤ whole) (sym same) at_least

pub loop-digit-preserved : goal.loop-digit-preserved
loop-digit-preserved c =
    let digits = c.args.digits.now in
    let index = c.loop-digit.digit-index in
    let below : index < length digits = c.loop-digit-test.true in
    let more = digits_value_more c.args.base digits index below in
    let product = c.in_ok-checked_mul.ensures in
    let sum = c.in_ok-value.ensures in
    let digit = c.in_ok-value_of_digit.ensures.value in
    cc (more, product.1, sum.1, digit, c.loop-digit.invariant)

pub returns-in_err-checked_mul-clause-decimal : goal.returns-in_err-checked_mul-clause-decimal
returns-in_err-checked_mul-clause-decimal c = λ some decimal small.
    let at_least = least _ c.loop-digit.value _ _ _ c.loop-digit.invariant (up-to c.args.base c.loop-digit.digit-index c.args.digits.now some c.loop-digit-test.true) in
    let fits : c.loop-digit.value * c.args.base < 2 ^ 64 = omega (arith, at_least, small) in
    absurd (c.in_err-checked_mul.ensures fits)

pub returns-in_err-value-clause-decimal : goal.returns-in_err-value-clause-decimal
returns-in_err-value-clause-decimal c = λ some decimal small.
    let at_least = least _ c.loop-digit.value _ _ _ c.loop-digit.invariant (up-to c.args.base c.loop-digit.digit-index c.args.digits.now some c.loop-digit-test.true) in
    let product = c.in_ok-checked_mul.ensures.1 in
    let digit = c.in_ok-value_of_digit.ensures.value in
    let fits : c.in_ok-checked_mul.field-0 + c.in_ok-value_of_digit.field-0 < 2 ^ 64 = omega (arith, at_least, small, product, digit) in
    absurd (c.in_err-value.ensures fits)
