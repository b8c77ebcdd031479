-- the next state to close: what is known of it, and when there is none
use Rattle.std.proofs.Common.{◌≡◌, ℕ, ◌+◌, ◌<◌, ◌≤◌, Bool, true, false, List, length, get_or, Option, None, Some, refl, sym, subst, ◌∙◌, inl, inr, arith}
use Rattle.std.specs.Prelude.{MatchOption}
use Rattle.std.proofs.lemmas.Bool.{cases_lt}
use Rattle.lrplacing.specs.Construction.{Draft, closed_at}
use Rattle.lrplacing.specs.Invariant.{AreClosed}
use Rattle.lrpager.specs.Choices.{IsUnclosed, NoneUnclosedFrom, IsFirstUnclosedFrom, IsNextUnclosed}
use Rattle.lrpager.specs.Choices as choice
use Rattle.lrplacing.proofs.DraftLists.{closed_found}

-- the next state to close is to be closed
pub next_is_unclosed : {ss : List Draft} {from k : ℕ} → IsNextUnclosed ss from k → IsUnclosed ss k
next_is_unclosed (choice.IsNextUnclosed.later f) = f.unclosed
next_is_unclosed (choice.IsNextUnclosed.earlier none f) = f.unclosed

true_of_not_false : (b : Bool) → (b ≡ false → ⊥) → b ≡ true
true_of_not_false true n = refl
true_of_not_false false n = absurd (n refl)

-- where no state from the first one on is to be closed, all are closed
closed_of_none_from_first : (ss : List Draft) → NoneUnclosedFrom ss 0 → AreClosed ss
closed_of_none_from_first ss none k below = true_of_not_false (closed_at ss k) (λ e. none k (omega arith) (below, e))

-- where no state from `from` on is to be closed, the first of all that is to be closed is the next
pub first_is_next :
    (ss : List Draft) (from : ℕ) (r : Option ℕ) → NoneUnclosedFrom ss from → MatchOption r (NoneUnclosedFrom ss 0) (IsFirstUnclosedFrom ss 0)
    → MatchOption r (AreClosed ss) (IsNextUnclosed ss from)
first_is_next ss from None none m = closed_of_none_from_first ss m
first_is_next ss from (Some k) none m = choice.IsNextUnclosed.earlier none m

-- the state that was read at a place, by the test whether it is closed
module _ (ss : List Draft) (k : ℕ) (s : Draft) (b : Bool) (below : k < length ss) (at : s ≡ get_or ss k s) (test : b ≡ s.is_closed) where
  here : closed_at ss k ≡ b
  here = closed_found ss k s below at ∙ sym test

  pub is_unclosed : b ≡ false → IsUnclosed ss k
  is_unclosed e = (below, here ∙ e)

  pub not_unclosed : b ≡ true → IsUnclosed ss k → ⊥
  not_unclosed e u = let n : true ≡ false = sym e ∙ sym here ∙ u.1 in cc

-- one more place at which no state is to be closed
pub none_more :
    (ss : List Draft) (from i : ℕ) → ((k : ℕ) → from ≤ k → k < i → IsUnclosed ss k → ⊥) → (IsUnclosed ss i → ⊥)
    → (k : ℕ) → from ≤ k → k < i + 1 → IsUnclosed ss k → ⊥
none_more ss from i before here k f l u =
    elim (cases_lt k i) [
      | inl lt ↦ before k f lt u
      | inr ge ↦ let same : k ≡ i = omega arith in here (subst (IsUnclosed ss) same u)
    ]
