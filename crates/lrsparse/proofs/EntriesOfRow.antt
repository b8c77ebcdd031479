-- the numbers of a row by its entries
use Rattle.std.proofs.Common.{◌≡◌, ◌≢◌, ◌⊎◌, ℕ, zero, suc, ◌+◌, ◌<◌, List, [], ◌∷◌, length, slice_index, refl, inl, inr, arith, eq-eqb, get_or}
use Rattle.std.specs.List.{All, AllPairs}
use Rattle.std.proofs.lemmas.Bool.{cases_eq, ne_eqb}
use Rattle.std.proofs.lemmas.List.{length-map, get_or-map}
use Rattle.std.proofs.lemmas.List.Elements.{All-nil, All-cons, All-head, All-tail}
use Rattle.lrsparse.specs.Entries.{columns_in, number_in}

-- the column of an entry
pub column_at : (es : List (ℕ × ℕ)) (k : ℕ) (d : ℕ × ℕ) → k < length es → slice_index (columns_in es) k ≡ (get_or es k d).0
column_at es k d l = get_or-map (λ e. e.0) es k d 0 l

pub columns_len : (es : List (ℕ × ℕ)) → length (columns_in es) ≡ length es
columns_len es = length-map es (λ e. e.0)

-- where no column comes twice, each entry gives its column its number
pub number_of_entry :
    (empty : ℕ) (es : List (ℕ × ℕ)) → AllPairs (λ x y. x < y) (columns_in es)
    → (k : ℕ) (d : ℕ × ℕ) → k < length es → number_in empty es (get_or es k d).0 ≡ (get_or es k d).1
number_of_entry empty [] up k d l = absurd (omega arith)
number_of_entry empty (e ∷ es) up zero d l = rw (eq-eqb e.0 e.0 refl) refl
number_of_entry empty (e ∷ es) up (suc k) d l =
    let m : k < length es = omega arith in
    let below = up 0 (suc k) 0 (omega arith) (omega (arith, columns_len es)) in
    let apart : e.0 ≢ (get_or es k d).0 = omega (arith, below, column_at es k d m) in
    rw (ne_eqb e.0 (get_or es k d).0 apart)
    (number_of_entry empty es (λ i j f h n. up (suc i) (suc j) f (omega arith) (omega arith)) k d m)

-- a column without entry has the empty number
pub no_number : (empty : ℕ) (es : List (ℕ × ℕ)) (c : ℕ) → All (λ e. e.0 ≢ c) es → number_in empty es c ≡ empty
no_number empty [] c none = refl
no_number empty (e ∷ es) c none =
    rw (ne_eqb e.0 c (All-head (λ e. e.0 ≢ c) e es none)) (no_number empty es c (All-tail (λ e. e.0 ≢ c) e es none))

-- a place is that of an entry or of none
pub entry_or_none :
    (es : List (ℕ × ℕ)) (d p : ℕ)
    → ((k : ℕ) × (k < length es) × (p ≡ d + (get_or es k (0, 0)).0)) ⊎ All (λ e. p ≢ d + e.0) es
entry_or_none [] d p = inr (All-nil (λ e. p ≢ d + e.0))
entry_or_none (e ∷ es) d p = elim (cases_eq p (d + e.0)) [
  | inl same ↦ inl (0, omega arith, same)
  | inr apart ↦ elim (entry_or_none es d p) [
    | inl (k, l, at) ↦ inl (suc k, omega arith, at)
    | inr none ↦ inr (All-cons (λ e. p ≢ d + e.0) e es apart none)
  ]
]
