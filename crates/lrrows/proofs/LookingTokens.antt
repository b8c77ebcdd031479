-- the least production by which a state reduces, one complete item after the other
use Rattle.std.proofs.Common.{◌≡◌, ℕ, zero, suc, ◌+◌, ◌-◌, ◌<◌, ◌≤◌, Bool, true, false, cond, List, [], ◌∷◌, length}
use Rattle.std.proofs.Common.{map, get_or, take, drop, Option, None, Some, option_map, eq-eqb, refl, sym, ap, ◌∙◌, arith}
use Rattle.std.specs.Prelude.{◌==◌, if◌then◌else◌}
use Rattle.std.specs.Option.{option_or}
use Rattle.std.proofs.Math.ListN.{drop_of_length-le}
use Rattle.std.proofs.Math.Numerals.{add-one}
use Rattle.std.proofs.Math.Seq.{drop-cons, take-length}
use Rattle.lrgrammar.specs.Bits.{places, set_places}
use Rattle.lrrows.specs.StateRows.{first_at}
use Rattle.lrrows.proofs.CompleteTurns.{other}
use Rattle.lrrows.proofs.FilledPlaces.{AreFilling, IsFilled, filled_turn}

-- the production, at the tokens that it is to come to yet
abbrev pub coming : List ℕ → ℕ → ℕ → Option ℕ
coming [] p t = None
coming (k ∷ ks) p t = if t == k then Some p else coming ks p t

none_below : (a : ℕ) (v : List Bool) (p t : ℕ) → t < a → coming (places a v) p t ≡ None
none_below a [] p t l = refl
none_below a (true ∷ v) p t l = rw (other t a (omega arith)) (none_below (a + 1) v p t (omega arith))
none_below a (false ∷ v) p t l = none_below (a + 1) v p t (omega arith)

coming_at : (a : ℕ) (v : List Bool) (p t u : ℕ) → u ≡ a + t → coming (places a v) p u ≡ cond (get_or v t false) (Some p) None
coming_at a [] p t u e = refl
coming_at a (true ∷ v) p zero u e = rw (eq-eqb u a (omega arith)) refl
coming_at a (false ∷ v) p zero u e = none_below (a + 1) v p u (omega arith)
coming_at a (true ∷ v) p (suc t) u e = rw (other u a (omega arith)) (coming_at (a + 1) v p t u (omega arith))
coming_at a (false ∷ v) p (suc t) u e = coming_at (a + 1) v p t u (omega arith)

-- it is to come to the tokens at which its item looks
pub coming_looks : (v : List Bool) (p t : ℕ) → coming (set_places v 0 (length v)) p t ≡ first_at ((p, v) ∷ []) t
coming_looks v p t =
    let all : take (length v - 0) v ≡ v = ap (λ k. take k v) (omega arith) ∙ take-length v in
    rw all (coming_at 0 v p t t (omega arith))

regrouped :
    (o : Option ℕ) (b : Bool) (p : ℕ) (later : Option ℕ)
    → option_or (option_or o (cond b (Some p) None)) later ≡ option_or o (cond b (Some p) later)
regrouped None true p later = refl
regrouped None false p later = refl
regrouped (Some q) b p later = refl

module _ {X : Type 0} (number : X → ℕ) (old new : List (Option X)) (n : ℕ) (whole : ℕ → Option ℕ) (many : length old ≡ n) where
  -- the production comes to one token more
  pub coming_turn :
      (k : ℕ) (x : X) (ts later : List ℕ) → ts ≡ k ∷ later → IsFilled old new k x
      → AreFilling number old n (coming ts (number x)) whole → AreFilling number new n (coming later (number x)) whole
  coming_turn k x ts later e filled filling =
      filled_turn number old new n k x (coming ts (number x)) (coming later (number x)) whole many filled
      (rw (e, eq-eqb k k refl) refl) (λ t d. rw (e, other t k d) refl) filling

  -- one complete item more has come
  pub item_turn :
      (item : ℕ × List Bool) (items later : List (ℕ × List Bool)) → items ≡ item ∷ later
      → ((t : ℕ) → t < length old
      → option_map number (get_or new t None) ≡ option_or (option_map number (get_or old t None)) (first_at (item ∷ []) t))
      → AreFilling number old n (first_at items) whole → AreFilling number new n (first_at later) whole
  item_turn item items later e comes filling t l =
      let below : t < length old = omega arith in
      rw (comes t below)
      (regrouped (option_map number (get_or old t None)) (get_or item.1 t false) item.0 (first_at later t)
      ∙ (rw e at (filling t l)))

-- the item at hand comes before those that are left
pub next_shown :
    {A B : Type 0} (f : A → B) (xs : List A) (i : ℕ) (x : A) → i < length xs → x ≡ get_or xs i x
    → map f (drop i xs) ≡ f x ∷ map f (drop (i + 1) xs)
next_shown f xs i x l is =
    let left : drop i xs ≡ x ∷ drop (suc i) xs = drop-cons xs i x l ∙ ap (λ y. y ∷ drop (suc i) xs) (sym is) in
    rw (add-one, left) refl

-- and none are left past the end
pub none_shown : {A B : Type 0} (f : A → B) (xs : List A) (i : ℕ) → length xs ≤ i → map f (drop i xs) ≡ []
none_shown f xs i l = rw (drop_of_length-le xs l) refl
