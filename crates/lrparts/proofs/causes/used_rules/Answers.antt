use Rattle.std.proofs.Common.{◌==◌, true, length, ap, ◌∙◌, arith}
use Rattle.std.specs.List.{list_any}
use Rattle.std.proofs.lemmas.List.{take_all, length-set}
use Rattle.lrparts.proofs.UsedRules.{noted, passed_by}
use Rattle.lrparts.proofs.causes.used_rules.Goals as goal
use Rattle.lrparts.proofs.causes.used_rules.Goals.{then-prod-len, else-prod-len}

-- all productions were seen
pub returns : goal.returns
returns c = record {
  all = c.loop-prod.invariant.all;
  each = λ r l. c.loop-prod.invariant.each r l ∙ ap (list_any (λ p. p.rule == r)) (take_all c.loop-prod.prod-index c.args.parts.now.prods.items (omega (arith, c.loop-prod-test.false, ap length c.deref-prod-items.ensures.value)));
}

-- one more production was seen
pub loop-prod-preserved : goal.loop-prod-preserved
loop-prod-preserved c =
    let before = c.loop-prod.used in
    let x = c.prod-item.result in
    elim c.if-prod-len.branch [
      | then-prod-len w ↦ rw w.used-is (record {
        all = length-set before.items x.rule true ∙ c.loop-prod.invariant.all;
        each = noted c.deref-prod-items.result.now c.args.parts.now.prods.items c.loop-prod.prod-index x c.deref-prod-items.ensures.value c.loop-prod-test.true c.prod-item.is before.items c.loop-prod.invariant.each (omega (arith, w.if-prod-len.true, c.len-in-loop-prod.ensures, before.ok.0));
      })
      | else-prod-len w ↦ rw w.used-is (record {
        all = c.loop-prod.invariant.all;
        each = passed_by c.deref-prod-items.result.now c.args.parts.now.prods.items c.loop-prod.prod-index x c.deref-prod-items.ensures.value c.loop-prod-test.true c.prod-item.is before.items c.loop-prod.invariant.each (omega (arith, w.if-prod-len.false, c.len-in-loop-prod.ensures, before.ok.0));
      })
    ]
