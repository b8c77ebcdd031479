use Rattle.std.proofs.Common.{ℕ, List, All, sym, subst}
use Rattle.std.proofs.lemmas.Map.Views.{All-values-insert_entry}
use Rattle.std.specs.Map.{values_of}
use Rattle.lryacc.specs.declared.faults.Fault.{Fault}
use Rattle.lryacc.specs.Spans.{IsInside}
use Rattle.lryacc.specs.Told.{IsToldOf}
use Rattle.lryacc.proofs.MapsOfFaults.{some-held, some-inserted}
use Rattle.lryacc.proofs.ToldFaults.{told-of}
use Rattle.lryacc.proofs.file.in_order.Goals.{then-not-contains_key+in_ok-insert, else-not-contains_key}
use Rattle.lryacc.proofs.file.in_order.Goals as goal

pub loop-fault-preserved : goal.loop-fault-preserved
loop-fault-preserved c =
    let lies_inside : Fault → Type 0 = λ fault. IsInside fault.span c.args.text.now in
    let told : Fault → Type 0 = IsToldOf c.args.text.now c.args.faults.now in
    let so_far = c.loop-fault.invariant in
    elim c.if-not-contains_key.branch [
      | then-not-contains_key+in_ok-insert w ↦
          let entries = w.in_ok-insert.ensures.entries in
          rw w.by_place-is (record {
            inside =
                subst (λ (es : List (ℕ × Fault)). All lies_inside (values_of es)) (sym entries)
                (All-values-insert_entry _ _ _ lies_inside _ so_far.inside c.within-span.ensures.inside);
            told =
                subst (λ (es : List (ℕ × Fault)). All told (values_of es)) (sym entries)
                (All-values-insert_entry _ _ _ told _ so_far.told
                (told-of c.args.text.now c.args.faults.now c.loop-fault.fault-index _ c.within-span.result c.loop-fault-test.true c.within-span.ensures.same));
            some = λ _. some-inserted _ c.loop-fault.by_place.entries _ _ _ entries;
          })
      | else-not-contains_key w ↦ rw w.by_place-is (record { inside = so_far.inside; told = so_far.told; some = λ _. some-held _ c.loop-fault.by_place.entries w.if-not-contains_key.ensures })
    ]
