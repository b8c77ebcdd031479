-- which tokens of a row are taken, one after another
use Rattle.std.proofs.Common.{◌≡◌, ℕ, suc, ◌+◌, ◌-◌, ◌<◌, ◌≤◌, Bool, true, false, [], ◌∷◌, ◌↔◌, refl, inl, inr, arith}
use Rattle.std.specs.Prelude.{Contains}
use Rattle.std.specs.List.{range_with_len}
use Rattle.std.specs.List.Sorted.{IsStrictlyIncreasing}
use Rattle.std.proofs.lemmas.Bool.{cases_lt, le-ltb}
use Rattle.std.proofs.lemmas.List.Elements.{All-contains, filter_passes}
use Rattle.std.proofs.lemmas.List.FromFn.{length-range_with_len, get_or-range_with_len}
use Rattle.std.proofs.lemmas.List.Kept.{IsStrictlyIncreasing-filter}
use Rattle.lrspec.proofs.grammars.ListMembers.{contains_from_among, among_below, among_filter}
use Rattle.lrsparse.specs.Matrix.{Matrix, value_at}
use Rattle.lrcells.specs.TakenTokens.{takes_cell, tokens_taken}

-- a range goes upwards
range_upwards : (a n : ℕ) → IsStrictlyIncreasing (range_with_len a n)
range_upwards a n k l =
    let h : k + 1 < n = rw (length-range_with_len a n) at l in
    rw (get_or-range_with_len a n k 0 (omega arith), get_or-range_with_len a n (k + 1) 0 h) (omega arith)

module _ (m : Matrix) (row : ℕ) (only : Bool) where
  -- a token that is not taken is passed over
  pub token_passed :
      (at end : ℕ) → at < end → takes_cell only (value_at m row at) ≡ false → tokens_taken m row only at end ≡ tokens_taken m row only (at + 1) end
  token_passed at end l e =
      let one : end - at ≡ suc (end - (at + 1)) = omega arith in
      rw (one, e) refl

  -- one that is taken stands before those behind it
  pub token_found :
      (at end : ℕ) → at < end → takes_cell only (value_at m row at) ≡ true → tokens_taken m row only at end ≡ at ∷ tokens_taken m row only (at + 1) end
  token_found at end l e =
      let one : end - at ≡ suc (end - (at + 1)) = omega arith in
      rw (one, e) refl

  -- behind the last one there is none
  pub tokens_ended : (at end : ℕ) → end ≤ at → tokens_taken m row only at end ≡ []
  tokens_ended at end l =
      let none : end - at ≡ 0 = omega arith in
      rw none refl

  -- they go upwards
  pub tokens_upwards : (n : ℕ) → IsStrictlyIncreasing (tokens_taken m row only 0 n)
  tokens_upwards n = IsStrictlyIncreasing-filter (λ t. takes_cell only (value_at m row t)) (range_with_len 0 (n - 0)) (range_upwards 0 (n - 0))

  -- a token whose cell is taken has a column
  taken_below : (t : ℕ) → takes_cell only (value_at m row t) ≡ true → t < m.cols
  taken_below t h = elim (cases_lt t m.cols) [
    | inl l ↦ l
    | inr l ↦ let none : false ≡ true = rw (le-ltb t m.cols l) at h in absurd cc
  ]

  -- they are those whose cells are taken
  pub tokens_members : (t : ℕ) → Contains (tokens_taken m row only 0 m.cols) t ↔ (takes_cell only (value_at m row t) ≡ true)
  tokens_members t = (
    λ h. All-contains (λ u. takes_cell only (value_at m row u) ≡ true) (tokens_taken m row only 0 m.cols) t
        (filter_passes (λ u. takes_cell only (value_at m row u)) (range_with_len 0 (m.cols - 0))) h,
    λ h. contains_from_among t (tokens_taken m row only 0 m.cols)
        (among_filter (λ u. takes_cell only (value_at m row u)) t (range_with_len 0 (m.cols - 0)) (among_below (m.cols - 0) t (omega (arith, taken_below t h))) h),
  )
