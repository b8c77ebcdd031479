-- places of set bits, one after another, and what is done for each
use Rattle.std.proofs.Common.{◌≡◌, ℕ, ◌<◌, Bool, true, false, List, length, ◌∙◌, subst, ◌⊎◌, inl, inr}
use Rattle.std.specs.Prelude.{IsTrue, Contains, slice_set}
use Rattle.std.proofs.lemmas.Bool.{cases_lt, cases_eq}
use Rattle.std.proofs.lemmas.List.{get_or_past, get_or-set_other, get_or-set_same}
use Rattle.lrspec.proofs.grammars.ListMembers.{Among, among_from_contains}
use Rattle.lrbits.specs.Bits.{bit}

-- what is asked of each place at which something holds is so, but for places that are left
abbrev pub AreDone : (ℕ → Type 0) → (ℕ → Type 0) → List ℕ → Type 0
AreDone P Q left = (k : ℕ) → P k → Q k ⊎ Among k left

-- where all are left
pub none_done : (P Q : ℕ → Type 0) (left : List ℕ) → ((k : ℕ) → P k → Contains left k) → AreDone P Q left
none_done P Q left all k p = inr (among_from_contains k left (all k p))

-- a bit that is set is one of the bits
pub set_within : (v : List Bool) (i : ℕ) → IsTrue (bit v i) → i < length v
set_within v i is = elim (cases_lt i (length v)) [
  | inl l ↦ l
  | inr l ↦ let none : bit v i ≡ false = get_or_past v i false l in let no : false ≡ true = rw none at is in absurd cc
]

-- a bit that is set now
pub set_here : (v : List Bool) (i : ℕ) → i < length v → IsTrue (bit (slice_set v i true) i)
set_here v i l = get_or-set_same v i true false l

-- and those that were
pub set_keeps : (v : List Bool) (i k : ℕ) → IsTrue (bit v k) → IsTrue (bit (slice_set v i true) k)
set_keeps v i k is = elim (cases_eq k i) [
  | inl e ↦ subst (λ j. IsTrue (bit (slice_set v j true) k)) e (set_here v k (set_within v k is))
  | inr n ↦ get_or-set_other v i k true false n ∙ is
]
