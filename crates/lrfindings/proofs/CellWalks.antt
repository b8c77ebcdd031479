-- a walk over the reductions of a cell with a shift
use Rattle.std.proofs.Common.{◌≡◌, ◌∙◌, ℕ, suc, ◌+◌, ◌<◌, ◌≤◌, Bool, true, false, ◌&&◌, Option, None, Some, List, [], ◌∷◌, ◌++◌, length, get_or, drop, cond, refl, sym, ap, append_assoc}
use Rattle.std.specs.List.{cons_option}
use Rattle.std.proofs.lemmas.List.{append-nil}
use Rattle.std.proofs.Math.ListN.{drop_of_length-le}
use Rattle.std.proofs.Math.Numerals.{add-one}
use Rattle.std.proofs.Math.Seq.{drop-cons}
use Rattle.lrfindings.specs.declared.cells.Outcome.{Outcome}
use Rattle.lrfindings.specs.declared.cells.Winner.{Winner}
use Rattle.lrfindings.specs.CellConflicts.{Resolution, leaves_shift, leaves_reduction, decision, reductions_left, shift_stands, decided, resolved_of}

-- an element, and what is behind it
pub next_behind : {X : Type 0} (xs : List X) (i : ℕ) (x : X) → i < length xs → x ≡ get_or xs i x → drop i xs ≡ x ∷ drop (i + 1) xs
next_behind xs i x l is =
    let left : drop i xs ≡ x ∷ drop (suc i) xs = drop-cons xs i x l ∙ ap (λ y. y ∷ drop (suc i) xs) (sym is) in
    rw (add-one, left) refl

-- nothing is behind the end
pub none_behind : {X : Type 0} (xs : List X) (i : ℕ) → length xs ≤ i → drop i xs ≡ []
none_behind xs i l = drop_of_length-le xs l

-- what was made of the reductions so far, and what is made of those that are behind, is what is made of all: whether the shift
-- stands, the reductions that are left, and what is resolved
pub record AreTried (o : ℕ → Outcome) (s t : ℕ) (before : List Resolution) (all : List ℕ) (behind : List ℕ) (stands : Bool) (left : List ℕ) (resolved : List Resolution) : Type 0 where
  pub stands_is : stands && shift_stands o behind ≡ shift_stands o all
  pub left_is : left ++ cond stands (reductions_left o behind) behind ≡ reductions_left o all
  pub resolved_is : resolved ++ resolved_of s t (cond stands (decided o behind) []) ≡ before ++ resolved_of s t (decided o all)

one_or_none : (b : Bool) (p : ℕ) (ps : List ℕ) → cond b (p ∷ []) [] ++ ps ≡ cond b (p ∷ ps) ps
one_or_none true p ps = refl
one_or_none false p ps = refl

one_more : (s t : ℕ) (d : Option (ℕ × Winner)) (ds : List (ℕ × Winner)) → resolved_of s t (cons_option d []) ++ resolved_of s t ds ≡ resolved_of s t (cons_option d ds)
one_more s t None ds = refl
one_more s t (Some d) ds = refl

module _ (o : ℕ → Outcome) (s t : ℕ) (before : List Resolution) (all : List ℕ) where
  pub none_tried : AreTried o s t before all all true [] before
  none_tried = record { stands_is = refl; left_is = refl; resolved_is = refl }

  -- one reduction more is tried against the shift, which stands
  pub tried_next :
      (p : ℕ) (behind next left more : List ℕ) (resolved new : List Resolution) (q : Outcome)
      → behind ≡ p ∷ next → q ≡ o p → more ≡ left ++ cond (leaves_reduction q) (p ∷ []) []
      → new ≡ resolved ++ resolved_of s t (cons_option (decision q p) [])
      → AreTried o s t before all behind true left resolved → AreTried o s t before all next (leaves_shift q) more new
  tried_next p behind next left more resolved new q b is pushed decides tried =
      let stands : leaves_shift q && shift_stands o next ≡ shift_stands o all = rw is (rw b at tried.stands_is) in
      let rest : List ℕ = cond (leaves_shift q) (reductions_left o next) next in
      let left_all : left ++ cond (leaves_reduction q) (p ∷ rest) rest ≡ reductions_left o all = rw is (rw b at tried.left_is) in
      let ds : List (ℕ × Winner) = cond (leaves_shift q) (decided o next) [] in
      let resolved_all : resolved ++ resolved_of s t (cons_option (decision q p) ds) ≡ before ++ resolved_of s t (decided o all) = rw is (rw b at tried.resolved_is) in
      record {
        stands_is = stands;
        left_is = rw pushed (append_assoc left (cond (leaves_reduction q) (p ∷ []) []) rest ∙ ap (λ ps. left ++ ps) (one_or_none (leaves_reduction q) p rest) ∙ left_all);
        resolved_is =
            rw decides
            (append_assoc resolved (resolved_of s t (cons_option (decision q p) [])) (resolved_of s t ds)
            ∙ ap (λ ls. resolved ++ ls) (one_more s t (decision q p) ds) ∙ resolved_all);
      }

  -- one reduction more is left where the shift does not stand
  pub left_next :
      (p : ℕ) (behind next left more : List ℕ) (resolved : List Resolution) → behind ≡ p ∷ next → more ≡ left ++ p ∷ []
      → AreTried o s t before all behind false left resolved → AreTried o s t before all next false more resolved
  left_next p behind next left more resolved b pushed tried =
      let left_all : left ++ p ∷ next ≡ reductions_left o all = rw b at tried.left_is in
      record {
        stands_is = tried.stands_is;
        left_is = rw pushed (append_assoc left (p ∷ []) next ∙ left_all);
        resolved_is = tried.resolved_is;
      }

  -- none is behind
  all_stand : (b : Bool) → b ≡ b && true
  all_stand true = refl
  all_stand false = refl

  nothing_left : (b : Bool) → cond b (reductions_left o []) [] ≡ []
  nothing_left true = refl
  nothing_left false = refl

  nothing_decided : (b : Bool) → resolved_of s t (cond b (decided o []) []) ≡ []
  nothing_decided true = refl
  nothing_decided false = refl

  pub all_tried_stands : (behind left : List ℕ) (stands : Bool) (resolved : List Resolution) → behind ≡ [] → AreTried o s t before all behind stands left resolved → stands ≡ shift_stands o all
  all_tried_stands behind left stands resolved b tried = all_stand stands ∙ (rw b at tried.stands_is)

  pub all_tried_left : (behind left : List ℕ) (stands : Bool) (resolved : List Resolution) → behind ≡ [] → AreTried o s t before all behind stands left resolved → left ≡ reductions_left o all
  all_tried_left behind left stands resolved b tried =
      sym (ap (λ ps. left ++ ps) (nothing_left stands) ∙ append-nil left) ∙ (rw b at tried.left_is)

  pub all_tried_resolved :
      (behind left : List ℕ) (stands : Bool) (resolved : List Resolution) → behind ≡ [] → AreTried o s t before all behind stands left resolved
      → resolved ≡ before ++ resolved_of s t (decided o all)
  all_tried_resolved behind left stands resolved b tried =
      sym (ap (λ ls. resolved ++ ls) (nothing_decided stands) ∙ append-nil resolved) ∙ (rw b at tried.resolved_is)
