-- numbers from 0 on that are taken one after another
use Rattle.std.proofs.Common.{◌≡◌, ℕ, zero, suc, ◌+◌, ◌<◌, List, [], ◌∷◌, refl, sym, subst, ap, ◌∙◌, arith}
use Rattle.std.specs.List.{range_with_len}

-- of the numbers below `n` these are left, and `P` holds of the count of the others
pub record InTurn (P : ℕ → Type 0) (n : ℕ) (left : List ℕ) : Type 0 where
  pub done : ℕ
  pub rest : ℕ
  pub all : done + rest ≡ n
  pub left_is : left ≡ range_with_len done rest
  pub holds : P done

first_of_range : (a n x : ℕ) (xs : List ℕ) → range_with_len a n ≡ x ∷ xs → (m : ℕ) × (n ≡ suc m) × (a ≡ x) × (range_with_len (a + 1) m ≡ xs)
first_of_range a zero x xs e = cc
first_of_range a (suc n) x xs e = (n, refl, cc, cc)

none_of_range : (a n : ℕ) → range_with_len a n ≡ [] → n ≡ 0
none_of_range a zero e = refl
none_of_range a (suc n) e = cc

-- before the first
pub turns_begin : (P : ℕ → Type 0) (n : ℕ) (left : List ℕ) → left ≡ range_with_len 0 n → P 0 → InTurn P n left
turns_begin P n left e h = record { done = 0; rest = n; all = omega arith; left_is = e; holds = h }

-- the next number is below `n`, and `P` holds of it
pub turn_at : (P : ℕ → Type 0) (n : ℕ) (left : List ℕ) (x : ℕ) (xs : List ℕ) → left ≡ x ∷ xs → InTurn P n left → (x < n) × P x
turn_at P n left x xs e t =
    let (m, i, j, k) = first_of_range t.done t.rest x xs (sym t.left_is ∙ e) in
    (omega (arith, t.all), subst P j t.holds)

-- once it is taken
pub turn_taken :
    (P Q : ℕ → Type 0) (n : ℕ) (left : List ℕ) (x : ℕ) (xs : List ℕ) → left ≡ x ∷ xs → InTurn P n left → Q (x + 1) → InTurn Q n xs
turn_taken P Q n left x xs e t h =
    let (m, i, j, k) = first_of_range t.done t.rest x xs (sym t.left_is ∙ e) in
    record { done = x + 1; rest = m; all = omega (arith, t.all); left_is = sym k ∙ ap (λ a. range_with_len (a + 1) m) j; holds = h }

-- once none is left
pub turns_end : (P : ℕ → Type 0) (n : ℕ) (left : List ℕ) → left ≡ [] → InTurn P n left → P n
turns_end P n left e t =
    let i = none_of_range t.done t.rest (sym t.left_is ∙ e) in
    let l : t.done ≡ n = omega (arith, t.all) in
    subst P l t.holds
