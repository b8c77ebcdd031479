-- A pass over the productions that adds to the rows of FIRST sets, one production more at a time.
use Rattle.std.proofs.Common.{◌≡◌, ℕ, ◌+◌, ◌<◌, ◌≤◌, Bool, true, false, ◌||◌, List, length, replicate, arith, ap, ◌∙◌, ◌⊎◌, ⊎_elim}
use Rattle.std.proofs.lemmas.List.{length-replicate, get_or-replicate, get_or_past}
use Rattle.std.proofs.lemmas.Bool.{cases_Bool, cases_lt, or_cases, or_parts}
use Rattle.lrspec.specs.grammars.Grammar.{Grammar, token_count, IsProductionOf}
use Rattle.lrbits.specs.Bits.{bit}
use Rattle.lrgrammar.specs.FirstRows.{row, AreRows, HoldBegins, IsDone, AreDoneBelow, unset_rows}
use Rattle.lrgrammar.proofs.NullableRules.{below_from_rule}
use Rattle.lrgrammar.proofs.DoneRows.{done_below_more}

-- where a pass over the productions stands: `x` are the rows before the pass and `y` those now, and `b` says
-- whether there was a change
pub record Passed (g : Grammar) (v : List Bool) (x y : List (List Bool)) (i : ℕ) (b : Bool) : Type 0 where
  pub shape : AreRows g y
  pub sound : HoldBegins g x → HoldBegins g y
  pub grown : b ≡ true → unset_rows y < unset_rows x
  pub same : b ≡ false → y ≡ x
  pub done : b ≡ false → AreDoneBelow g v y i

-- one production `p`: the next one upwards, or any one where all have been seen
pub passed_more :
    (g : Grammar) (v : List Bool) (x y z : List (List Bool)) (i p : ℕ) (b c : Bool) → (p ≡ i) ⊎ (length g.productions ≤ i) → Passed g v x y i b
    → AreRows g z → (HoldBegins g y → HoldBegins g z) → (c ≡ true → unset_rows z < unset_rows y) → (c ≡ false → z ≡ y)
    → (c ≡ false → (r : ℕ) → IsProductionOf g p r → IsDone g v z p r) → Passed g v x z (i + 1) (b || c)
passed_more g v x y z i p b c k w shape sound grown same done =
    record {
      shape = shape;
      sound = λ m. sound (w.sound m);
      grown = λ e.
          ⊎_elim
          (λ (o : b ≡ true).
          ⊎_elim
          (λ (q : c ≡ true). omega (arith, w.grown o, grown q))
          (λ (q : c ≡ false). rw (same q) (w.grown o))
          (cases_Bool c))
          (λ (o : c ≡ true).
          ⊎_elim
          (λ (q : b ≡ true). omega (arith, w.grown q, grown o))
          (λ (q : b ≡ false). rw (← w.same q) (grown o))
          (cases_Bool b))
          (or_cases b c e);
      same = λ e. let q = or_parts b c e in same q.1 ∙ w.same q.0;
      done = λ e.
          let q = or_parts b c e in
          done_below_more g v z i (rw (same q.1) (w.done q.0))
          (⊎_elim
          (λ (o : p ≡ i). rw (← o) (done q.1))
          (λ (o : length g.productions ≤ i) r h. absurd (omega (arith, below_from_rule g i r h)))
          k);
    }

-- rows without a set bit
pub rows_from_replicate : (g : Grammar) (n m : ℕ) → n ≡ length g.rule_names → m ≡ token_count g → AreRows g (replicate n (replicate m false))
rows_from_replicate g n m e f = record {
  rules = length-replicate n (replicate m false) ∙ e;
  tokens = λ r h. ap length (get_or-replicate n r (replicate m false) _ (omega arith)) ∙ length-replicate m false ∙ f;
}

clear_bit : (m t : ℕ) → bit (replicate m false) t ≡ false
clear_bit m t =
    ⊎_elim
    (λ (h : t < m). get_or-replicate m t false false h)
    (λ (h : m ≤ t). get_or_past (replicate m false) t false (omega (arith, length-replicate m false)))
    (cases_lt t m)

clear_row_bit : (n m r t : ℕ) → bit (row (replicate n (replicate m false)) r) t ≡ false
clear_row_bit n m r t =
    ⊎_elim
    (λ (h : r < n). ap (λ v. bit v t) (get_or-replicate n r (replicate m false) _ h) ∙ clear_bit m t)
    (λ (h : n ≤ r). ap (λ v. bit v t) (get_or_past (replicate n (replicate m false)) r _ (omega (arith, length-replicate n (replicate m false)))))
    (cases_lt r n)

pub sound_from_replicate : (g : Grammar) (n m : ℕ) → HoldBegins g (replicate n (replicate m false))
sound_from_replicate g n m r t b = let e = clear_row_bit n m r t in cc
