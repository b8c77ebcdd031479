use Rattle.std.proofs.Common.{◌≡◌, ◌+◌, ◌≤◌, slice_index, slice_range, refl, rules, arith}
use Rattle.std.specs.Str.Parse.{digits_value}
use Rattle.std.specs.Char.{digit_value}
use Rattle.lryacc.proofs.Escapes.{some-digit, hexadecimal-escape, letter-escape, long-escape, octal-escape, short-escape}
use Rattle.lryacc.proofs.quotes.escape_number.Goals as goal
use Rattle.lryacc.proofs.quotes.escape_number.Goals.{In_ok-letter}

-- the letter behind the backslash
letter-is : (c : In_ok-letter) → c.in_ok-letter.field-0.now ≡ slice_index c.args.text.now (c.args.from + 1)
letter-is c = search rules

pub returns-in-Some-clause-is : goal.returns-in-Some-clause-is
returns-in-Some-clause-is c =
    letter-escape c.args.text.now c.args.from c.in_ok-letter.field-0.now c.in-Some.byte c.from.result
    (letter-is (goal.at.returns-in-Some-clause-is c).In_ok-letter) c.in-Some.ensures (search rules) (omega arith)

pub returns-in-120-clause-is : goal.returns-in-120-clause-is
returns-in-120-clause-is c =
    hexadecimal-escape c.args.text.now c.args.from c.in_ok-letter.field-0.now c.hexadecimal.result
    (letter-is (goal.at.returns-in-120-clause-is c).In_ok-letter) c.in-120.is c.hexadecimal.ensures.inside
    c.hexadecimal.ensures.least c.hexadecimal.ensures.all c.hexadecimal.ensures.is

pub returns-in-117-clause-is : goal.returns-in-117-clause-is
returns-in-117-clause-is c =
    let found = c.hexadecimal-in-117 in
    short-escape c.args.text.now c.args.from c.in_ok-letter.field-0.now found.result
    (letter-is (goal.at.returns-in-117-clause-is c).In_ok-letter) c.in-117.is found.ensures.least found.ensures.most found.ensures.is

pub returns-in-85-clause-is : goal.returns-in-85-clause-is
returns-in-85-clause-is c =
    let found = c.hexadecimal-in-85 in
    long-escape c.args.text.now c.args.from c.in_ok-letter.field-0.now found.result
    (letter-is (goal.at.returns-in-85-clause-is c).In_ok-letter) c.in-85.is found.ensures.least found.ensures.most found.ensures.is

pub returns-in-48-to-55-clause-is : goal.returns-in-48-to-55-clause-is
returns-in-48-to-55-clause-is c =
    let text = c.args.text.now in
    let found = c.digits in
    let mark = c.in_ok-letter.field-0.now in
    let here = letter-is (goal.at.returns-in-48-to-55-clause-is c).In_ok-letter in
    let low : 48 ≤ mark = omega arith in
    let high : mark ≤ 55 = omega arith in
    let none : c.args.from + 1 ≡ found.result.1 → 8 ≤ digit_value mark = λ e. rw (here, e) (found.ensures.all (omega arith)) in
    octal-escape text c.args.from found.result.1 found.result.0
    (record {
      exact = digits_value 8 (slice_range text (c.args.from + 1) found.result.1);
      is = record { digits = found.ensures.digits; value = refl };
      capped = found.ensures.value;
    })
    (some-digit mark (c.args.from + 1) found.result.1 low high found.ensures.from none) found.ensures.most found.ensures.all
