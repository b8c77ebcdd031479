-- starts, as sets of columns, and rows that come after them
use Rattle.std.proofs.Common.{◌≡◌, ◌↔◌, ℕ, zero, ◌+◌, ◌-◌, ◌*◌, ◌/◌, ◌%◌, ◌<◌, ◌≤◌, List, Contains, length, slice_index, bit_or, ap, ◌∙◌, inl, inr, arith, replicate, get_or, ◌⊎◌}
use Rattle.std.specs.Int.{bit_at}
use Rattle.std.proofs.lemmas.Bool.{cases_lt}
use Rattle.std.proofs.lemmas.List.{get_or_default, get_or_past, get_or-replicate, length-replicate}
use Rattle.std.proofs.lemmas.Nat.Bits.{bit_at_or, bit_at-lt, bit_at-zero}
use Rattle.lrsparse.specs.Owned.{IsOwned, MeetsNone}
use Rattle.lrsparse.specs.Starts.{IsIn, FitNowhereBelow, AreStarts}
use Rattle.lrsparse.specs.declared.sparsevec.starts.ColumnSet.{ColumnSet}
use Rattle.lrsparse.specs.declared.sparsevec.starts.Starts.{Starts}

-- a column that met an owned place meets it still
pub nowhere_stays :
    (before after : List ℕ) (columns : ColumnSet) (d : ℕ) → ((p : ℕ) → IsOwned before p → IsOwned after p)
    → FitNowhereBelow before columns d → FitNowhereBelow after columns d
nowhere_stays before after columns d grown none k l meets = none k l (λ c o w. meets c o (grown (k + c) w))

-- so starts stay starts
pub starts_stay :
    (starts : Starts) (before after : List ℕ) → ((p : ℕ) → IsOwned before p → IsOwned after p) → AreStarts starts before → AreStarts starts after
starts_stay starts before after grown are k s l =
    let start = get_or starts.all.items k s in
    nowhere_stays before after start.columns start.displacement grown (are k s l)

-- more columns fit nowhere either
pub nowhere_of_more :
    (words : List ℕ) (part whole : ColumnSet) (d : ℕ) → ((c : ℕ) → IsIn part c → IsIn whole c)
    → FitNowhereBelow words part d → FitNowhereBelow words whole d
nowhere_of_more words part whole d among none k l meets = none k l (λ c o. meets c (among c o))

-- a set of columns fits where their list does
module _ (words columns : List ℕ) (set : ColumnSet) (same : (c : ℕ) → IsIn set c ↔ Contains columns c) (d : ℕ) where
  pub nowhere_of_set : FitNowhereBelow words set d → (k : ℕ) → k < d → MeetsNone words columns k → ⊥
  nowhere_of_set none k l meets = none k l (λ c o w.
      let there = (same c).0 o in
      let is : slice_index columns there.0 ≡ c = get_or_default columns there.0 0 c there.1 ∙ there.2 in
      meets there.0 there.1 (rw is w))

  pub nowhere_of_list : ((k : ℕ) → k < d → MeetsNone words columns k → ⊥) → FitNowhereBelow words set d
  nowhere_of_list none k l meets = none k l (λ j m w.
      let c = slice_index columns j in
      meets c ((same c).1 (j, m, get_or_default columns j c 0 m)) w)

long : (n : ℕ) → length (replicate n zero) ≡ n
long n = length-replicate n zero

-- no place is owned where no bit is set
none_owned : (n p : ℕ) → IsOwned (replicate n 0) p → ⊥
none_owned n p o = elim (cases_lt (p / 64) n) [
  | inl l ↦
      let none = get_or-replicate n (p / 64) zero zero l in
      absurd (omega (arith, o, bit_at-zero (p % 64), ap (λ w. bit_at w (p % 64)) none))
  | inr l ↦
      let bits : List ℕ = replicate n 0 in
      let none = get_or_past bits (p / 64) 0 (omega (arith, long n)) in
      absurd (omega (arith, o, bit_at-zero (p % 64), ap (λ w. bit_at w (p % 64)) none))
]

-- a bit of the next word is one of the word with whose bits it adds none
pub among_one_more :
    (part : List ℕ) (index own : ℕ) (P : ℕ → ℕ → Type 0)
    → ((j i : ℕ) → j < index → i < 64 → bit_at (slice_index part j) i ≡ 1 → P j i)
    → ((i : ℕ) → i < 64 → bit_at own i ≡ 1 → P index i)
    → bit_or (slice_index part index) own ≡ own
    → (j i : ℕ) → j < index + 1 → i < 64 → bit_at (slice_index part j) i ≡ 1 → P j i
among_one_more part index own P so_far there adds j i l low bit = elim (cases_lt j index) [
  | inl less ↦ so_far j i less low bit
  | inr last ↦
      let same : j ≡ index = omega arith in
      let a = slice_index part index in
      rw same (there i low (omega (arith, rw same at bit, bit_at_or a own i, bit_at-lt a i, bit_at-lt own i, ap (λ n. bit_at n i) adds)))
]

-- a set is among others where each bit of its words is
pub among_by_words :
    (part whole : ColumnSet)
    → ((j i : ℕ) → j < length part.words.items → i < 64 → bit_at (slice_index part.words.items j) i ≡ 1 → IsIn whole (part.first + 64 * j + i))
    → (c : ℕ) → IsIn part c → IsIn whole c
among_by_words part whole words c (l, o) =
    let p = c - part.first in
    let place : part.first + 64 * (p / 64) + p % 64 ≡ c = omega arith in
    elim (cases_lt (p / 64) (length part.words.items)) [
      | inl h ↦ rw place at (words (p / 64) (p % 64) h (omega arith) o)
      | inr h ↦
          let none = get_or_past part.words.items (p / 64) 0 h in
          absurd (omega (arith, o, bit_at-zero (p % 64), ap (λ n. bit_at n (p % 64)) none))
    ]

-- columns that are all moved behind fit as far below
pub nowhere_moved :
    (words : List ℕ) (columns moved : ColumnSet) (d behind : ℕ) → moved.words.items ≡ columns.words.items → moved.first ≡ columns.first + behind
    → FitNowhereBelow words columns d → FitNowhereBelow words moved (d - behind)
nowhere_moved words columns moved d behind same first none k l meets =
    none (k + behind) (omega (arith, l)) (λ c (low, o) w.
    let place : c + behind - moved.first ≡ c - columns.first = omega (arith, first, low) in
    let at : k + (c + behind) ≡ k + behind + c = omega arith in
    meets (c + behind) (omega (arith, first, low), rw (same, place) o) (rw at w))

-- what the columns add to no places, so far before, is their set
pub set_of_list :
    (none words columns : List ℕ) (first n : ℕ) → none ≡ replicate n 0
    → ((k : ℕ) → k < length columns → first ≤ slice_index columns k)
    → ((p : ℕ) → IsOwned words p ↔ (IsOwned none p ⊎ ((k : ℕ) × (k < length columns) × (first + p ≡ slice_index columns k))))
    → (c : ℕ) → ((first ≤ c) × IsOwned words (c - first)) ↔ Contains columns c
set_of_list none words columns first n clear behind put c = (
  λ w. elim ((put (c - first)).0 w.1) [
    | inl o ↦ absurd (none_owned n (c - first) (rw clear at o))
    | inr (k, h, is) ↦ (k, h, omega (arith, get_or_default columns k c 0 h, is, w.0))
  ],
  λ there.
      let is = get_or_default columns there.0 c 0 there.1 in
      let low = behind there.0 there.1 in
      (omega (arith, is, low, there.2), (put (c - first)).1 (inr (there.0, there.1, omega (arith, is, low, there.2)))),
)
