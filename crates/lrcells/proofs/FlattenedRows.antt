-- rows of one length, joined end to end: how many cells there are, and where each stands
use Rattle.std.proofs.Common.{◌≡◌, ℕ, ◌+◌, ◌*◌, ◌<◌, ◌≤◌, zero, suc, List, [], ◌∷◌, length, take, sym, ap, ◌∙◌, arith, get_or}
use Rattle.std.specs.List.{flat_map, range_with_len, All}
use Rattle.std.proofs.lemmas.List.{length-append, length-take-le}
use Rattle.std.proofs.lemmas.List.Concat.{get_or-flat_map}
use Rattle.std.proofs.lemmas.List.Elements.{All-append, All-nil}
use Rattle.std.proofs.lemmas.List.FromFn.{length-range_with_len, get_or-range_with_len}

module _ {X : Type 0} (row : ℕ → List X) (cols : ℕ) (even : (s : ℕ) → length (row s) ≡ cols) where
  length_of_joined : (xs : List ℕ) → length (flat_map row xs) ≡ length xs * cols
  length_of_joined [] = omega arith
  length_of_joined (x ∷ xs) = length-append (row x) (flat_map row xs) ∙ omega (arith, even x, length_of_joined xs)

  -- the cells of `n` rows
  pub length_of_rows : (n : ℕ) → length (flat_map row (range_with_len 0 n)) ≡ n * cols
  length_of_rows n = length_of_joined (range_with_len 0 n) ∙ ap (λ k. k * cols) (length-range_with_len 0 n)

  -- the cell in a row and a column
  pub cell_of_rows : (n s t : ℕ) (d : X) → s < n → t < cols → get_or (flat_map row (range_with_len 0 n)) (s * cols + t) d ≡ get_or (row s) t d
  cell_of_rows n s t d l k =
      let states = range_with_len 0 n in
      let long : length states ≡ n = length-range_with_len 0 n in
      let at : get_or states s 0 ≡ s = get_or-range_with_len 0 n s 0 l ∙ omega arith in
      let before : length (flat_map row (take s states)) ≡ s * cols =
      length_of_joined (take s states) ∙ ap (λ k. k * cols) (length-take-le s states (omega arith)) in
      ap (λ k. get_or (flat_map row states) (k + t) d) (sym before)
      ∙ (get_or-flat_map row states s t 0 d (omega arith) (omega (arith, even (get_or states s 0)))
      ∙ ap (λ k. get_or (row k) t d) at)

-- what holds of the cells of each row holds of all cells
pub all_of_rows :
    {X : Type 0} (P : X → Type 0) (row : ℕ → List X) (a n : ℕ) → ((s : ℕ) → a ≤ s → s < a + n → All P (row s))
    → All P (flat_map row (range_with_len a n))
all_of_rows P row a zero each = All-nil P
all_of_rows P row a (suc n) each =
    All-append P (row a) (flat_map row (range_with_len (a + 1) n)) (each a (omega arith) (omega arith))
    (all_of_rows P row (a + 1) n (λ s l k. each s (omega arith) (omega arith)))
