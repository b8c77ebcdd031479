-- What one symbol of a body adds to a row of FIRST sets.
use Rattle.std.proofs.Common.{◌≡◌, ◌≢◌, ℕ, ◌+◌, ◌<◌, Bool, true, false, IsTrue, ◌↔◌, List, [], length, set, ap, sym, ◌∙◌, arith, ◌⊎◌, inl, inr, ⊎_elim, length-set, get_or-set_other}
use Rattle.std.proofs.lemmas.List.{get_or-set_same, set-get_or}
use Rattle.std.proofs.lemmas.Bool.{cases_eq, cases_Bool, both_ways, true_from_ne_false, eq-eqb, eqb-true}
use Rattle.lrspec.specs.grammars.Grammar.{Rule, Token}
use Rattle.lrbits.specs.Bits.{bit, union}
use Rattle.lrbits.specs.Bits.{unset}
use Rattle.lrgrammar.specs.FirstRows.{row, Adds, unset_rows}
use Rattle.lrbits.proofs.Unions.{length-union, union_bit, union_bit_second, union_grows}
use Rattle.lrbits.proofs.UnsetBits.{unset_falls, set_again}
use Rattle.lrgrammar.proofs.UnsetRows.{unset_rows_set}

-- a row of the same length in the place of another keeps each row's length
length_row_set : (x : List (List Bool)) (r k : ℕ) (v : List Bool) → r < length x → length v ≡ length (row x r) → length (row (set x r v) k) ≡ length (row x k)
length_row_set x r k v h l =
    ⊎_elim
    (λ (e : k ≡ r). rw (e, get_or-set_same x r v [] h) l)
    (λ (n : k ≢ r). ap length (get_or-set_other x r k v [] n))
    (cases_eq k r)

-- a set bit after one row was replaced is of that row, or was set before
bit_row_set :
    (x : List (List Bool)) (r k t : ℕ) (v : List Bool) → r < length x → IsTrue (bit (row (set x r v) k) t)
    → ((k ≡ r) × IsTrue (bit v t)) ⊎ IsTrue (bit (row x k) t)
bit_row_set x r k t v h b =
    ⊎_elim
    (λ (e : k ≡ r). inl (e, rw (e, get_or-set_same x r v [] h) at b))
    (λ (n : k ≢ r). inr (rw (get_or-set_other x r k v [] n) at b))
    (cases_eq k r)

-- a change leaves fewer bits that are not set, and without one all stays
changes_join :
    (x y : List (List Bool)) (r s : ℕ) (b : Bool) → r < length x → y ≡ set x r (union (row x r) (row x s)) → (IsTrue b ↔ (y ≢ x))
    → (b ≡ true → unset_rows y < unset_rows x) × (b ≡ false → (y ≡ x) × (union (row x r) (row x s) ≡ row x r))
changes_join x y r s b h e k =
    let u = union (row x r) (row x s) in
    let n : unset_rows (set x r u) + unset (row x r) ≡ unset_rows x + unset u = unset_rows_set x r u h in
    ⊎_elim
    (λ (q : u ≡ row x r).
    let same : y ≡ x = e ∙ rw q (set-get_or x r []) in
    (λ t. absurd (k.0 t same), λ _. (same, q)))
    (λ (q : unset u < unset (row x r)).
    let less : unset_rows y < unset_rows x = rw e (omega arith) in
    (λ _. less, λ f. absurd (both_ways b f (k.1 (λ p. omega (arith, ap unset_rows p))))))
    (union_grows (row x r) (row x s))

-- a row joined with that of a rule
pub adds_from_join :
    (x y : List (List Bool)) (r s : ℕ) (b : Bool) → r < length x → length (row x s) ≡ length (row x r)
    → y ≡ set x r (union (row x r) (row x s)) → (IsTrue b ↔ (y ≢ x)) → Adds x y r (Rule s) b
adds_from_join x y r s b h l e k =
    let u = union (row x r) (row x s) in
    let m = changes_join x y r s b h e k in
    record {
      rows = ap length e ∙ length-set x r u;
      tokens = λ i. rw e (length_row_set x r i u h (length-union (row x r) (row x s)));
      grown = m.0;
      same = λ f. (m.1 f).0;
      held = λ f t z. rw (m.1 f).1 at (union_bit_second (row x r) (row x s) t l z);
      only = λ i t z.
          ⊎_elim
          (λ (p : (i ≡ r) × IsTrue (bit u t)).
          ⊎_elim
          (λ (q : IsTrue (bit (row x r) t)). inl (rw p.0 q))
          (λ (q : IsTrue (bit (row x s) t)). inr (p.0, q))
          (union_bit (row x r) (row x s) t p.1))
          (λ (p : IsTrue (bit (row x i) t)). inl p)
          (bit_row_set x r i t u h (rw e at z));
    }

-- a set bit after one bit was set is that bit, or was set before
bit_set : (v : List Bool) (t i : ℕ) → IsTrue (bit (set v t true) i) → IsTrue (bit v i) ⊎ (t ≡ i)
bit_set v t i h =
    ⊎_elim
    (λ (e : i ≡ t). inr (sym e))
    (λ (n : i ≢ t). inl (rw (get_or-set_other v t i true false n) at h))
    (cases_eq i t)

-- a token's bit set in a row
pub adds_from_set :
    (x y : List (List Bool)) (r u : ℕ) (b : Bool) → r < length x → u < length (row x r) → y ≡ set x r (set (row x r) u true)
    → (IsTrue b ↔ (bit (row x r) u ≢ true)) → Adds x y r (Token u) b
adds_from_set x y r u b h l e k =
    let v = set (row x r) u true in
    let n : unset_rows (set x r v) + unset (row x r) ≡ unset_rows x + unset v = unset_rows_set x r v h in
    let again : bit (row x r) u ≡ true → y ≡ x = λ q. e ∙ rw (set_again (row x r) u q) (set-get_or x r []) in
    let was : b ≡ false → bit (row x r) u ≡ true = λ f. true_from_ne_false (bit (row x r) u) (λ z. both_ways b f (k.1 (λ q. both_ways (bit (row x r) u) z q))) in
    record {
      rows = ap length e ∙ length-set x r v;
      tokens = λ i. rw e (length_row_set x r i v h (length-set (row x r) u true));
      grown = λ t.
          ⊎_elim
          (λ (q : bit (row x r) u ≡ true). absurd (k.0 t q))
          (λ (q : bit (row x r) u ≡ false). rw e (omega (arith, unset_falls (row x r) u l q)))
          (cases_Bool (bit (row x r) u));
      same = λ f. again (was f);
      held = λ f t z. rw (eqb-true u t z) at (was f);
      only = λ i t z.
          ⊎_elim
          (λ (p : (i ≡ r) × IsTrue (bit v t)).
          ⊎_elim
          (λ (q : IsTrue (bit (row x r) t)). inl (rw p.0 q))
          (λ (q : u ≡ t). inr (p.0, eq-eqb u t q))
          (bit_set (row x r) u t p.1))
          (λ (p : IsTrue (bit (row x i) t)). inl p)
          (bit_row_set x r i t v h (rw e at z));
    }
