use Rattle.std.proofs.Common.{◌≡◌, ◌-◌, ◌<◌, ◌≤◌, ◌^◌, length, slice_index, slice_range, arith, rules}
use Rattle.std.specs.Str.Parse.{digits_value}
use Rattle.lryacc.proofs.Escapes.{capped-more, one-more, value-more}
use Rattle.lryacc.proofs.quotes.digits.Goals as goal

pub loop-at-preserved : goal.loop-at-preserved
loop-at-preserved c =
    let text = c.args.text.now in
    let at = c.loop-at.at in
    let radix = c.args.radix in
    let ordered : c.args.from ≤ at = omega arith in
    let inside : at < length text = omega arith in
    let found = c.in-Some.ensures.value in
    let same : c.from.result ≡ slice_index text at = search rules in
    let is = rw same at found in
    let more = value-more radix text c.args.from at ordered inside in
    let capped = capped-more c.loop-at.value (digits_value radix (slice_range text c.args.from at)) radix
    c.in-Some.digit (2 ^ 32 - 1) (omega arith) c.loop-at.invariant.1 in (
      one-more radix text c.args.from at ordered inside c.loop-at.invariant.0 is.0,
      rw (c.saturating_add-value.ensures, c.saturating_mul.ensures, more, ← is.1) capped,
    )
