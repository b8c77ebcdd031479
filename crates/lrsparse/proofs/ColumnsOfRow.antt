-- the columns of a row's entries against the places that are owned
use Rattle.std.proofs.Common.{◌≡◌, ℕ, zero, suc, ◌+◌, ◌-◌, ◌<◌, ◌≤◌, List, None, Some, length, slice_index, sym, ◌∙◌, inl, inr, arith, get_or}
use Rattle.std.specs.List.{slice_get}
use Rattle.std.specs.List.Sorted.{IsStrictlyIncreasing}
use Rattle.std.proofs.lemmas.Bool.{cases_lt}
use Rattle.std.proofs.lemmas.Option.{slice_get_within, get_or_from_slice_get, slice_get-get_or}
use Rattle.lrsparse.specs.Owned.{IsOwned, MeetsNone}

-- of numbers that rise none is above the last
rises : (xs : List ℕ) → IsStrictlyIncreasing xs → (k j : ℕ) → k + j < length xs → slice_index xs k ≤ slice_index xs (k + j)
rises xs up k zero l = rw (let same : k + zero ≡ k = omega arith in same) (omega arith)
rises xs up k (suc j) l =
    let next : k + suc j ≡ k + j + 1 = omega arith in
    rw next (omega (arith, rises xs up k j (omega arith), up (k + j) (omega arith)))

up_to_last : (xs : List ℕ) → IsStrictlyIncreasing xs → (k : ℕ) → k < length xs → slice_index xs k ≤ slice_index xs (length xs - 1)
up_to_last xs up k l =
    let last : k + (length xs - 1 - k) ≡ length xs - 1 = omega arith in
    rw last at (rises xs up k (length xs - 1 - k) (omega arith))

-- at the end of the list no column meets an owned place
pub least_within :
    (len : ℕ) (words : List ℕ) → ((p : ℕ) → IsOwned words p → p < len)
    → (columns : List ℕ) (d : ℕ) → ((k : ℕ) → k < d → MeetsNone words columns k → ⊥) → d ≤ len
least_within len words within columns d least = elim (cases_lt len d) [
  | inl l ↦ absurd (least len l (λ k h o. omega (arith, within (len + slice_index columns k) o)))
  | inr l ↦ l
]

module _ (columns : List ℕ) where
  -- none of the columns stands behind the last one
  pub last_there : (last : ℕ) → slice_get columns (length columns - 1) ≡ Some last → (length columns - 1 < length columns) × (slice_index columns (length columns - 1) ≡ last)
  last_there last was = (slice_get_within columns (length columns - 1) last was, get_or_from_slice_get columns (length columns - 1) last 0 was)

  pub column_to_last :
      IsStrictlyIncreasing columns → (last : ℕ) → slice_get columns (length columns - 1) ≡ Some last
      → (k : ℕ) → k < length columns → slice_index columns k ≤ last
  column_to_last upwards last was k l = omega (arith, up_to_last columns upwards k l, (last_there last was).1)

  -- nor before the first one
  pub column_from_first :
      IsStrictlyIncreasing columns → (first : ℕ) → slice_get columns 0 ≡ Some first → (k : ℕ) → k < length columns → first ≤ slice_index columns k
  column_from_first upwards first was k l =
      let is : slice_index columns 0 ≡ first = get_or_from_slice_get columns 0 first 0 was in
      let above = rises columns upwards 0 k (omega arith) in
      let same : 0 + k ≡ k = omega arith in
      omega (arith, is, rw same at above)

  -- without a last column there is none
  pub none_there : slice_get columns (length columns - 1) ≡ None → length columns ≡ 0
  none_there was = elim (cases_lt 0 (length columns)) [
    | inl l ↦
        let some = slice_get-get_or columns (length columns - 1) 0 (omega arith) in
        let both : Some (get_or columns (length columns - 1) 0) ≡ None = sym some ∙ was in
        absurd cc
    | inr l ↦ omega arith
  ]
