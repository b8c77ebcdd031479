use Rattle.std.proofs.Common.{◌≡◌, ◌<◌, true, false, length, set, arith, ◌∙◌, sym, ap, IsTrue, length-set}
use Rattle.std.proofs.lemmas.Bool.{both_ways}
use Rattle.lrspec.specs.grammars.Grammar as math
use Rattle.lrbits.specs.Bits.{bit}
use Rattle.lrgrammar.specs.NullableBits.{all_set}
use Rattle.lrbits.specs.Bits.{unset}
use Rattle.lrbits.proofs.UnsetBits.{unset_falls}
use Rattle.lrgrammar.proofs.NullableRules.{holds_set, closed_below_more, closed_from_below}
use Rattle.lrgrammar.proofs.firsts.nullable.grow_nullable.Goals as goal
use Rattle.lrgrammar.proofs.firsts.nullable.grow_nullable.Goals.{then-not-get+then-all_nullable, else-not-get, else-not-get-via-then-not-get+else-all_nullable, else-not-get-via-else-not-get}

pub loop-i-preserved : goal.loop-i-preserved
loop-i-preserved g c =
    let number = g.T.IndexStorage.number in
    let m = c.args.grm.now in
    let v = c.loop-i.known in
    let i = c.loop-i.i in
    let r = c.to_usize-rule.result in
    let e : number c.unwrap.result ≡ i = (rw c.unwrap.ensures at c.from_usize.ensures).1 in
    let h : math.IsProductionOf m i r = rw (c.to_usize-rule.ensures.number, ← e) c.prod_to_rule.ensures.rule in
    let below = c.prod_to_rule.ensures.shape.rules i r h in
    let old = c.loop-i.invariant in
    elim c.if-not-get.branch [
      | then-not-get+then-all_nullable w ↦
          let k : c.if-not-get.known ≡ set v r true = w.known-is ∙ w.set.ensures.after in
          let full : IsTrue (all_set v (math.body_of m i)) = rw (← e) (sym w.all_nullable.ensures ∙ w.if-all_nullable.true) in
          let clear : bit v r ≡ false = sym c.get.ensures.value ∙ w.if-not-get.true in
          let falls : unset (set v r true) < unset v = unset_falls v r (omega (arith, below, old.rules, c.requires)) clear in
          record {
            rules = ap length k ∙ length-set v r true ∙ old.rules;
            sound = λ s. rw k (holds_set m v i r h full (old.sound s));
            fewer = rw k (omega (arith, falls, old.fewer));
            falls = λ _. rw k (omega (arith, falls, old.fewer));
            done = λ n. absurd (both_ways _ n w.grown-is);
          }
      | else-not-get w ↦
          let known : IsTrue (all_set v (math.body_of m i)) → IsTrue (bit v r) =
          elim w.else-not-get.branch [
            | else-not-get-via-then-not-get+else-all_nullable u ↦ λ t. absurd (both_ways _ u.if-all_nullable.false (u.all_nullable.ensures ∙ rw e t))
            | else-not-get-via-else-not-get u ↦ λ _. sym c.get.ensures.value ∙ u.if-not-get.false
          ] in
          rw w.known-is record {
            rules = old.rules;
            sound = old.sound;
            fewer = old.fewer;
            falls = λ t. old.falls (sym w.grown-is ∙ t);
            done = λ n. closed_below_more m v i r (old.done (sym w.grown-is ∙ n)) h known;
          }
    ]

pub returns-clause-done : goal.returns-clause-done
returns-clause-done g c n =
    closed_from_below c.args.grm.now c.loop-i.known c.loop-i.i (omega (arith, c.prods_len.ensures.value, c.to_usize-i-end.ensures.number)) (c.loop-i.invariant.done n)
