-- a turn for each production
use Rattle.std.proofs.Common.{◌≡◌, inl, inr, arith}
use Rattle.std.proofs.lemmas.Bool.{cases_lt}
use Rattle.lrspec.proofs.grammars.BodyFacts.{below_of_production}
use Rattle.lrcharts.proofs.closedness.is_closed.Goals as goal

pub loop-number-preserved : goal.loop-number-preserved
loop-number-preserved c = record {
  ends = c.is_closed_by.ensures.ends;
  next = c.is_closed_by.ensures.next;
  closed = λ p l. elim (cases_lt p c.loop-number.number) [
    | inl before ↦ c.loop-number.invariant.closed p before
    | inr now ↦ let here : p ≡ c.loop-number.number = omega (arith, l, now) in rw here (c.is_closed_by.ensures.closed c.if-not-is_closed_by.false)
  ];
}

pub returns : goal.returns
returns c = λ _ p r i j of high laid.
    c.loop-number.invariant.closed p (omega (arith, below_of_production c.args.grm.now p r of, c.loop-number-test.false, c.prods_len-number-end.ensures.value)) r i j of high laid
