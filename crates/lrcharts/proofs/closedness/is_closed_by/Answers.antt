-- a turn for each place
use Rattle.std.proofs.Common.{◌≡◌, inl, inr, sym, arith}
use Rattle.std.proofs.lemmas.Bool.{cases_lt}
use Rattle.lrspec.proofs.grammars.BodyFacts.{rule_unique}
use Rattle.lrcharts.proofs.LaidRows.{laid_begins}
use Rattle.lrcharts.proofs.closedness.is_closed_by.Goals as goal

pub returns-then-not-may_stand-clause-closed : goal.returns-then-not-may_stand-clause-closed
returns-then-not-may_stand-clause-closed c = λ _ r i j of high laid. absurd (c.may_stand.ensures c.if-not-may_stand.true i j (rw c.prod-body.ensures.body laid))

pub loop-from-preserved : goal.loop-from-preserved
loop-from-preserved c = record {
  ends = c.is_closed_from.ensures.ends;
  next = c.is_closed_from.ensures.next;
  closed = λ i j l high laid. elim (cases_lt i c.loop-from.from) [
    | inl before ↦ c.loop-from.invariant.closed i j before high laid
    | inr now ↦
        let here : i ≡ c.loop-from.from = omega (arith, l, now) in
        rw here (c.is_closed_from.ensures.closed c.if-not-is_closed_from.false j high (rw (c.prod-body.ensures.body, sym here) laid))
  ];
}

pub returns-clause-closed : goal.returns-clause-closed
returns-clause-closed c = λ _ r i j of high laid.
    rw (rule_unique c.args.grm.now c.args.production.0 r c.prod_to_rule-rule.result.0 of c.prod_to_rule-rule.ensures.rule)
    (c.loop-from.invariant.closed i j (omega (arith, laid_begins laid, c.loop-from-test.false)) high laid)
