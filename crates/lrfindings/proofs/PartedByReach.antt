-- what of a list is in states that are reached: what a mark keeps of it, and that in another order
use Rattle.std.proofs.Common.{◌≡◌, ℕ, Bool, true, IsTrue, List, [], ◌++◌, map, refl, subst}
use Rattle.std.specs.Prelude.{filter, not}
use Rattle.std.specs.List.Sorted.{IsPermutation}
use Rattle.std.proofs.lemmas.List.{map-append}
use Rattle.std.proofs.lemmas.List.Elements.{All-nil, All-map, filter_passes}
use Rattle.std.proofs.lemmas.List.Sorted.{IsPermutation-refl, IsPermutation-trans, IsPermutation-append, IsPermutation-map, IsPermutation-filter_both, All-permutation}
use Rattle.lrspec.specs.merging.Graph.{Graph}
use Rattle.lrgrammar.specs.Bits.{bit}
use Rattle.lrspec.specs.grammars.Grammar.{Grammar}
use Rattle.lrverdicts.specs.Listed.{Listing}
use Rattle.lrfindings.specs.CellConflicts.{Resolution, conflicts_left, reduced_by_states, resolved_in}
use Rattle.lrfindings.specs.ReachedStates.{IsReached, IsReachedIn, is_taken_away, AreMarked, AreOfReached, AreLeft, AreResolved}

-- in another order they are still those
pub in_another_order :
    {X : Type 0} {IsHere : ℕ → Type 0} {state : X → ℕ} {all these : List X} (those : List X) → IsPermutation these those
    → AreOfReached IsHere state all these → AreOfReached IsHere state all those
in_another_order {X} {IsHere} {state} {all} {these} those moved are = record {
  others = are.others;
  parted = IsPermutation-trans all (these ++ are.others) (those ++ are.others) are.parted
      (IsPermutation-append these those are.others are.others moved (IsPermutation-refl are.others));
  reached = All-permutation (λ x. IsHere (state x)) these those moved are.reached;
  not_reached = are.not_reached;
}

-- of nothing it is nothing
pub of_nothing : {X : Type 0} (IsHere : ℕ → Type 0) (state : X → ℕ) (all these : List X) → all ≡ [] → these ≡ [] → AreOfReached IsHere state all these
of_nothing IsHere state all these none kept = rw (none, kept) (record {
  others = [];
  parted = IsPermutation-refl [];
  reached = All-nil (λ x. IsHere (state x));
  not_reached = All-nil (λ x. ¬ (IsHere (state x)));
})

module _ (taken : ℕ → ℕ → Bool) (h : Graph) (marks : List Bool) (are : AreMarked taken h marks) where
  -- what a mark keeps of a list
  pub kept_by_marks :
      {X Y : Type 0} (state : X → ℕ) (view : Y → X) (ys kept : List Y) → kept ≡ filter (λ y. bit marks (state (view y))) ys
      → AreOfReached (IsReached taken h) state (map view ys) (map view kept)
  kept_by_marks {X} {Y} state view ys kept e =
      let p : Y → Bool = λ y. bit marks (state (view y)) in
      let q : Y → Bool = λ y. not (bit marks (state (view y))) in
      rw e (record {
        others = map view (filter q ys);
        parted = subst (IsPermutation (map view ys)) (map-append view (filter p ys) (filter q ys))
            (IsPermutation-map view ys (filter p ys ++ filter q ys) (IsPermutation-filter_both p q (λ y. refl) ys));
        reached = All-map (λ x. IsReached taken h (state x)) view (filter p ys) (λ k d l. are.reached _ (filter_passes p ys k d l));
        not_reached = All-map (λ x. ¬ (IsReached taken h (state x))) view (filter q ys)
            (λ k d l. λ r. unset _ (are.marked _ r) (filter_passes q ys k d l));
      })
    where
      unset : (b : Bool) → IsTrue b → not b ≡ true → ⊥
      unset b is not_so = cc

module _ (g : Grammar) (h : Graph) (rs : List Resolution) (all : rs ≡ resolved_in g h) where
  -- where all that is resolved is known, what is left is known
  pub left_by : (ls these : List Listing) → ls ≡ conflicts_left g h → AreOfReached (IsReached (is_taken_away rs) h) (λ e. e.3) ls these → AreLeft g h these
  left_by ls these e are =
      subst (λ l. AreOfReached (IsReachedIn g h) (λ e. e.3) l these) e (subst (λ l. AreOfReached (IsReached (is_taken_away l) h) (λ e. e.3) ls these) all are)

  -- and so is what of it is in states that are reached
  pub resolved_by : (these : List Resolution) → AreOfReached (IsReached (is_taken_away rs) h) (λ r. r.0.3) rs these → AreResolved g h these
  resolved_by these are = subst (λ l. AreOfReached (IsReached (is_taken_away l) h) (λ r. r.0.3) l these) all are

  -- so are the states with the productions by which they reduce
  pub reduced_by :
      (ms these : List (ℕ × ℕ)) → ms ≡ reduced_by_states g h → AreOfReached (IsReached (is_taken_away rs) h) (λ m. m.0) ms these
      → AreOfReached (IsReachedIn g h) (λ m. m.0) (reduced_by_states g h) these
  reduced_by ms these e are =
      subst (λ l. AreOfReached (IsReachedIn g h) (λ m. m.0) l these) e (subst (λ l. AreOfReached (IsReached (is_taken_away l) h) (λ m. m.0) ms these) all are)
