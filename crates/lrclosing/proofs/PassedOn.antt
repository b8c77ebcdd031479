-- the tokens that an item passes on, as a walk over the symbols finds them
use Rattle.std.proofs.Common.{◌≡◌, ◌≢◌, ℕ, zero, suc, ◌<◌, ◌≤◌, Option, None, Some, Bool, true, false, cond, List, [], ◌∷◌, length, set, length-set, refl, sym, ap, ◌∙◌, arith, ◌⊎◌, inl, inr}
use Rattle.std.specs.Prelude.{IsTrue, ◌↔◌, ◌||◌}
use Rattle.lrspec.specs.grammars.Grammar.{Symbol, Rule, Token, Grammar, token_count, AreBodySymbols}
use Rattle.lrspec.specs.grammars.First as first
use Rattle.lrspec.specs.grammars.First.{AllNullable, Begins}
use Rattle.lrbits.specs.Bits.{bit, union, unset}
use Rattle.lrgrammar.specs.Firsts.{Firsts, firsts_of, AreFirstsOf}
use Rattle.lrclosing.specs.Rows.{HasToken, room_of, HasGrown, ArePassedOn}
use Rattle.lrbits.proofs.Unions.{length-union, union_grows, bit_of_union}
use Rattle.lrbits.proofs.UnsetBits.{unset_falls, set_again}
use Rattle.lrclosing.proofs.JoinedLookaheads.{or_cases, or_left, or_right}

-- what a walk over the symbols `y` makes of the bits `acc`
abbrev pub passed : Firsts → List Symbol → List Bool → List Bool
passed f [] acc = acc
passed f (Token t ∷ y) acc = set acc t true
passed f (Rule r ∷ y) acc = cond (bit f.nullable r) (passed f y (union acc (firsts_of f r))) (union acc (firsts_of f r))

-- a bit that is set stays set
pub set_keeps : (v : List Bool) (i t : ℕ) → IsTrue (bit v t) → IsTrue (bit (set v i true) t)
set_keeps [] i t h = h
set_keeps (b ∷ v) zero zero h = refl
set_keeps (b ∷ v) zero (suc t) h = h
set_keeps (b ∷ v) (suc i) zero h = h
set_keeps (b ∷ v) (suc i) (suc t) h = set_keeps v i t h

pub set_here : (v : List Bool) (i : ℕ) → i < length v → IsTrue (bit (set v i true) i)
set_here [] i h = absurd (omega arith)
set_here (b ∷ v) zero h = refl
set_here (b ∷ v) (suc i) h = set_here v i (omega arith)

pub set_from : (v : List Bool) (i t : ℕ) → IsTrue (bit (set v i true) t) → (t ≡ i) ⊎ IsTrue (bit v t)
set_from [] i t h = inr h
set_from (b ∷ v) zero zero h = inl refl
set_from (b ∷ v) zero (suc t) h = inr h
set_from (b ∷ v) (suc i) zero h = inr h
set_from (b ∷ v) (suc i) (suc t) h = elim (set_from v i t h) [ inl e ↦ inl (ap suc e) | inr k ↦ inr k ]

pub union_left : (v w : List Bool) (t : ℕ) → length w ≡ length v → IsTrue (bit v t) → IsTrue (bit (union v w) t)
union_left v w t e h = rw (bit_of_union v w e t) (or_left (bit v t) (bit w t) h)

pub union_right : (v w : List Bool) (t : ℕ) → length w ≡ length v → IsTrue (bit w t) → IsTrue (bit (union v w) t)
union_right v w t e h = rw (bit_of_union v w e t) (or_right (bit v t) (bit w t) h)

pub union_from : (v w : List Bool) (t : ℕ) → length w ≡ length v → IsTrue (bit (union v w) t) → IsTrue (bit v t) ⊎ IsTrue (bit w t)
union_from v w t e h = or_cases (bit v t) (bit w t) (rw (bit_of_union v w e t) at h)

cond_both : (b : Bool) (v w : List Bool) (t : ℕ) → IsTrue (bit v t) → IsTrue (bit w t) → IsTrue (bit (cond b v w) t)
cond_both true v w t h k = h
cond_both false v w t h k = k

cond_cases : (b : Bool) (v w : List Bool) (t : ℕ) → IsTrue (bit (cond b v w) t) → ((b ≡ true) × IsTrue (bit v t)) ⊎ IsTrue (bit w t)
cond_cases true v w t h = inl (refl, h)
cond_cases false v w t h = inr h

length_cond : (b : Bool) (v w : List Bool) (n : ℕ) → length v ≡ n → length w ≡ n → length (cond b v w) ≡ n
length_cond true v w n h k = h
length_cond false v w n h k = k

length_passed : (f : Firsts) (y : List Symbol) (acc : List Bool) → length (passed f y acc) ≡ length acc
length_passed f [] acc = refl
length_passed f (Token t ∷ y) acc = length-set acc t true
length_passed f (Rule r ∷ y) acc =
    length_cond (bit f.nullable r) (passed f y (union acc (firsts_of f r))) (union acc (firsts_of f r)) (length acc)
    (length_passed f y (union acc (firsts_of f r)) ∙ length-union acc (firsts_of f r)) (length-union acc (firsts_of f r))

module _ (g : Grammar) (f : Firsts) (of : AreFirstsOf g f) where
  row : (r : ℕ) (acc : List Bool) → r < length g.rule_names → length acc ≡ token_count g → length (firsts_of f r) ≡ length acc
  row r acc h e = of.bits r h ∙ sym e

  row_union : (r : ℕ) (acc : List Bool) → length acc ≡ token_count g → length (union acc (firsts_of f r)) ≡ token_count g
  row_union r acc e = length-union acc (firsts_of f r) ∙ e

  -- bits that are set stay set
  passed_keeps :
      (y : List Symbol) (acc : List Bool) (t : ℕ) → AreBodySymbols g y → length acc ≡ token_count g → IsTrue (bit acc t) → IsTrue (bit (passed f y acc) t)
  passed_keeps [] acc t s e h = h
  passed_keeps (Token u ∷ y) acc t s e h = set_keeps acc u t h
  passed_keeps (Rule r ∷ y) acc t s e h =
      let more : IsTrue (bit (union acc (firsts_of f r)) t) = union_left acc (firsts_of f r) t (row r acc s.0.1 e) h in
      cond_both (bit f.nullable r) (passed f y (union acc (firsts_of f r))) (union acc (firsts_of f r)) t
      (passed_keeps y (union acc (firsts_of f r)) t s.1 (row_union r acc e) more) more

  -- the bits of what begins the symbols are set
  passed_begins :
      {y : List Symbol} {t : ℕ} (acc : List Bool) → AreBodySymbols g y → length acc ≡ token_count g → Begins g y t → IsTrue (bit (passed f y acc) t)
  passed_begins acc s e (first.Begins.here {t = t} {y = y}) = set_here acc t (omega (arith, e, s.0))
  passed_begins acc s e (first.Begins.inside {r = r} {t = t} {y = y} p h b) =
      let more : IsTrue (bit (union acc (firsts_of f r)) t) = union_right acc (firsts_of f r) t (row r acc s.0.1 e) ((of.begins r t).1 (p, h, b)) in
      cond_both (bit f.nullable r) (passed f y (union acc (firsts_of f r))) (union acc (firsts_of f r)) t
      (passed_keeps y (union acc (firsts_of f r)) t s.1 (row_union r acc e) more) more
  passed_begins acc s e (first.Begins.past {r = r} {t = t} {y = y} n b) =
      let null : bit f.nullable r ≡ true = (of.is_nullable r).1 n in
      rw null (passed_begins (union acc (firsts_of f r)) s.1 (row_union r acc e) b)

  row_begins : (r t : ℕ) (y : List Symbol) → IsTrue (bit (firsts_of f r) t) → Begins g (Rule r ∷ y) t
  row_begins r t y h = let b = (of.begins r t).0 h in first.Begins.inside b.0 b.1 b.2

  passed_past :
      (r : ℕ) (y : List Symbol) (acc : List Bool) (t : ℕ) → length (firsts_of f r) ≡ length acc → bit f.nullable r ≡ true
      → IsTrue (bit (union acc (firsts_of f r)) t) ⊎ Begins g y t → IsTrue (bit acc t) ⊎ Begins g (Rule r ∷ y) t
  passed_past r y acc t l n (inl h) = elim (union_from acc (firsts_of f r) t l h) [ inl j ↦ inl j | inr j ↦ inr (row_begins r t y j) ]
  passed_past r y acc t l n (inr h) = inr (first.Begins.past ((of.is_nullable r).0 n) h)

  -- and no others
  passed_from :
      (y : List Symbol) (acc : List Bool) (t : ℕ) → AreBodySymbols g y → length acc ≡ token_count g → IsTrue (bit (passed f y acc) t)
      → IsTrue (bit acc t) ⊎ Begins g y t
  passed_from [] acc t s e h = inl h
  passed_from (Token u ∷ y) acc t s e h = elim (set_from acc u t h) [ inl k ↦ inr (rw k first.Begins.here) | inr k ↦ inl k ]
  passed_from (Rule r ∷ y) acc t s e h =
      elim (cond_cases (bit f.nullable r) (passed f y (union acc (firsts_of f r))) (union acc (firsts_of f r)) t h) [
        | inl k ↦ passed_past r y acc t (row r acc s.0.1 e) k.0 (passed_from y (union acc (firsts_of f r)) t s.1 (row_union r acc e) k.1)
        | inr k ↦ elim (union_from acc (firsts_of f r) t (row r acc s.0.1 e) k) [ inl j ↦ inl j | inr j ↦ inr (row_begins r t y j) ]
      ]

  -- the walk adds what is passed on
  are_passed_on : (y : List Symbol) (acc : List Bool) → AreBodySymbols g y → length acc ≡ token_count g → ArePassedOn g y None (Some acc) (passed f y acc)
  are_passed_on y acc s e = record {
    len = length_passed f y acc ∙ e;
    kept = λ t h. passed_keeps y acc t s e h;
    begins = λ t b. passed_begins acc s e b;
    inherit = λ t a h. absurd h;
    from = λ t h. elim (passed_from y acc t s e h) [ inl k ↦ inl k | inr b ↦ inr (inl b) ];
  }

-- what the walk ends with is what is passed on
pub made_passed_on :
    (g : Grammar) (f : Firsts) → AreFirstsOf g f → (y : List Symbol) (acc row : List Bool) → AreBodySymbols g y → length acc ≡ token_count g
    → row ≡ passed f y acc → ArePassedOn g y None (Some acc) row
made_passed_on g f of y acc row s e h = rw h (are_passed_on g f of y acc s e)

-- with the own tokens of an item behind whose rule all is nullable
pub with_own :
    (g : Grammar) (y : List Symbol) (ctx : List Bool) (row : Option (List Bool)) (put : List Bool) → length ctx ≡ token_count g → AllNullable g y
    → ArePassedOn g y None row put → ArePassedOn g y (Some ctx) row (union put ctx)
with_own g y ctx row put e n p =
    let f : length ctx ≡ length put = e ∙ sym p.len in
    record {
      len = length-union put ctx ∙ p.len;
      kept = λ t k. union_left put ctx t f (p.kept t k);
      begins = λ t k. union_left put ctx t f (p.begins t k);
      inherit = λ t m k. union_right put ctx t f k;
      from = λ t k. elim (union_from put ctx t f k) [
        | inr x ↦ inr (inr (n, x))
        | inl x ↦ elim (p.from t x) [ inl z ↦ inl z | inr z ↦ elim z [ inl b ↦ inr (inl b) | inr b ↦ absurd b.1 ] ]
      ];
    }

-- where none are passed on
pub without_own :
    (g : Grammar) (y : List Symbol) (ctx row : Option (List Bool)) (put : List Bool) → ((t : ℕ) → AllNullable g y → HasToken ctx t → ⊥)
    → ArePassedOn g y None row put → ArePassedOn g y ctx row put
without_own g y ctx row put n p = record {
  len = p.len;
  kept = p.kept;
  begins = p.begins;
  inherit = λ t m k. absurd (n t m k);
  from = λ t k. elim (p.from t k) [ inl z ↦ inl z | inr z ↦ elim z [ inl b ↦ inr (inl b) | inr b ↦ absurd b.1 ] ];
}

-- a row that is made is more than none
pub made_grown : (k : ℕ) (new : List Bool) → length new ≡ k → HasGrown k true None new
made_grown k new e = omega (arith, unset_le new, e)
  where
    unset_le : (v : List Bool) → unset v ≤ length v
    unset_le [] = omega arith
    unset_le (true ∷ v) = omega (arith, unset_le v)
    unset_le (false ∷ v) = omega (arith, unset_le v)

-- ---- what has changed

pub grown_union : (k : ℕ) (b : Bool) (v w new : List Bool) → new ≡ union v w → (IsTrue b ↔ (new ≢ v)) → HasGrown k b (Some v) new
grown_union k true v w new e h = elim (union_grows v w) [ inl s ↦ absurd (h.0 refl (e ∙ s)) | inr l ↦ rw e l ]
grown_union k false v w new e h = elim (union_grows v w) [
  | inl s ↦ rw e (ap (λ x. Some x) (sym s))
  | inr l ↦
      let t : false ≡ true = h.1 (λ s. let n : unset (union v w) ≡ unset v = rw (← e) (ap unset s) in omega (arith, l, n)) in
      absurd cc
]

pub grown_set : (k : ℕ) (b : Bool) (v new : List Bool) (i : ℕ) → i < length v → new ≡ set v i true → (IsTrue b ↔ (bit v i ≢ true)) → HasGrown k b (Some v) new
grown_set k true v new i l e h = rw e (unset_falls v i l (unset_bit (bit v i) (h.0 refl)))
  where
    unset_bit : (x : Bool) → (x ≢ true) → x ≡ false
    unset_bit true n = absurd (n refl)
    unset_bit false n = refl
grown_set k false v new i l e h = rw e (ap (λ x. Some x) (sym (set_again v i (was (bit v i) h.1))))
  where
    was : (x : Bool) → ((x ≢ true) → false ≡ true) → x ≡ true
    was true n = refl
    was false n = let t : false ≡ true = n (λ e. cc) in absurd cc

-- changes one after another
pub grown_then :
    (k : ℕ) (a b : Bool) (o : Option (List Bool)) (v w : List Bool) → HasGrown k a o v → HasGrown k b (Some v) w → HasGrown k (a || b) o w
grown_then k true true o v w h j = omega (arith, h, j)
grown_then k true false o v w h j = let e : unset v ≡ unset w = ap (room_of k) j in omega (arith, h, e)
grown_then k false true o v w h j = rw h j
grown_then k false false o v w h j = h ∙ j

-- with the later one first
pub grown_before :
    (k : ℕ) (a b : Bool) (o : Option (List Bool)) (v w : List Bool) → HasGrown k a o v → HasGrown k b (Some v) w → HasGrown k (b || a) o w
grown_before k true true o v w h j = omega (arith, h, j)
grown_before k true false o v w h j = let e : unset v ≡ unset w = ap (room_of k) j in omega (arith, h, e)
grown_before k false true o v w h j = rw h j
grown_before k false false o v w h j = h ∙ j

-- turns of the walk
pub turn_past :
    (f : Firsts) (acc new total : List Bool) (left more : List Symbol) (r : ℕ) → passed f left acc ≡ total → left ≡ Rule r ∷ more
    → bit f.nullable r ≡ true → new ≡ union acc (firsts_of f r) → passed f more new ≡ total
turn_past f acc new total left more r h e n m = rw m ((rw n refl) ∙ ap (λ z. passed f z acc) (sym e) ∙ h)

pub turn_stop :
    (f : Firsts) (acc new total : List Bool) (left more : List Symbol) (r : ℕ) → passed f left acc ≡ total → left ≡ Rule r ∷ more
    → bit f.nullable r ≡ false → new ≡ union acc (firsts_of f r) → new ≡ total
turn_stop f acc new total left more r h e n m = m ∙ (rw n refl) ∙ ap (λ z. passed f z acc) (sym e) ∙ h

pub turn_token :
    (f : Firsts) (acc new total : List Bool) (left more : List Symbol) (t : ℕ) → passed f left acc ≡ total → left ≡ Token t ∷ more
    → new ≡ set acc t true → new ≡ total
turn_token f acc new total left more t h e m = m ∙ ap (λ z. passed f z acc) (sym e) ∙ h

pub turn_end :
    (f : Firsts) (acc new total : List Bool) (left : List Symbol) → passed f left acc ≡ total → left ≡ [] → new ≡ acc → new ≡ total
turn_end f acc new total left h e m = m ∙ ap (λ z. passed f z acc) (sym e) ∙ h
