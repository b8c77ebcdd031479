use Rattle.std.proofs.Common.{◌≡◌, ◌<◌, false, ◌++◌, List, Bool, ℕ, length, take, drop, replicate, ◌∙◌, sym, ap, subst}
use Rattle.std.proofs.Math.Seq.{take-append_seam}
use Rattle.lrgrammar.specs.FirstRows.{AreRows, unset_rows}
use Rattle.lrgrammar.proofs.DoneRows.{row_bits}
use Rattle.lrgrammar.proofs.RowPasses.{rows_from_replicate, sound_from_replicate}
use Rattle.lrgrammar.proofs.firsts.rows.first_rows.Goals as goal

pub loop-init : goal.loop-init
loop-init g c =
    let m = c.args.grm.now in
    let n = c.to_usize.result in
    let k = c.to_usize-2.result in
    let e : c.in_ok-rows.rows.items ≡ replicate n (replicate k false) = c.in_ok-rows.ensures in
    rw e record {
      shape = rows_from_replicate m n k (c.to_usize.ensures.number ∙ c.rules_len.ensures.value) (c.to_usize-2.ensures.number ∙ c.tokens_len.ensures.value);
      sound = sound_from_replicate m n k;
    }

-- rows written through a slice of a vector of `n` rows
written_back : (n : ℕ) (x y z : List (List Bool)) → length x ≡ n → length y ≡ length x → take n (y ++ z) ≡ y
written_back n x y z h k = ap (λ i. take i (y ++ z)) (sym h ∙ sym k) ∙ take-append_seam y z

pub loop-preserved : goal.loop-preserved
loop-preserved g c =
    let s = c.grow_rows.ensures in
    let y = c.grow_rows.new.rows in
    let v = c.as_mut_slice.ensures in
    let z = drop (length y) c.loop.rows.items in
    let e : take c.loop.rows.len (y ++ z) ≡ y =
    written_back c.loop.rows.len c.as_mut_slice.result.now y z v.len (s.shape.rules ∙ sym (ap length v.value ∙ c.loop.invariant.shape.rules)) in
    rw e record { shape = s.shape; sound = s.sound (rw v.value c.loop.invariant.sound) }

pub returns-clause-begins : goal.returns-clause-begins
returns-clause-begins g c =
    let s = c.grow_rows.ensures in
    let y = c.grow_rows.new.rows in
    let v = c.as_mut_slice.ensures in
    let z = drop (length y) c.loop.rows.items in
    let e : take c.loop.rows.len (y ++ z) ≡ y =
    written_back c.loop.rows.len c.as_mut_slice.result.now y z v.len (s.shape.rules ∙ sym (ap length v.value ∙ c.loop.invariant.shape.rules)) in
    rw e (row_bits c.args.grm.now c.args.nullable.now y c.requires.nullable (s.sound (rw v.value c.loop.invariant.sound)) (s.done c.loop-test.false))

pub grow_rows-requires : goal.grow_rows-requires
grow_rows-requires g c = record {
  rules = c.requires.rules;
  nullable = λ r. (c.requires.nullable r).0;
  shape = subst (AreRows c.args.grm.now) (sym c.as_mut_slice.ensures.value) c.loop.invariant.shape;
}

pub loop-smaller : goal.loop-smaller
loop-smaller g c =
    let s = c.grow_rows.ensures in
    let y = c.grow_rows.new.rows in
    let v = c.as_mut_slice.ensures in
    let x = c.loop.rows.items in
    let less : unset_rows y < unset_rows x = subst (λ z. unset_rows y < unset_rows z) v.value (s.grown c.loop-test.true) in
    subst (λ z. unset_rows z < unset_rows x) (sym (written_back c.loop.rows.len c.as_mut_slice.result.now y (drop (length y) x) v.len (s.shape.rules ∙ sym (ap length v.value ∙ c.loop.invariant.shape.rules)))) less
