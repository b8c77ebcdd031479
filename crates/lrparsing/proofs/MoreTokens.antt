-- tokens that the machine shifts behind a text, up to one more
use Rattle.std.proofs.Common.{◌≡◌, ⊎_elim, ℕ, ◌+◌, ◌<◌, ◌≤◌, List, [], ◌∷◌, ◌++◌, subst, arith}
use Rattle.std.specs.Prelude.{All, Contains}
use Rattle.std.proofs.lemmas.Bool.{cases_lt}
use Rattle.std.proofs.lemmas.List.Elements.{All-nil, All-push, All-weaker, Contains-append_left, Contains-push}
use Rattle.lrparsing.specs.Machines.{Tabled}
use Rattle.lrparsing.specs.Expected.{IsShiftedBehind, AreShiftedBehind}

module _ (m : Tabled) (w : List ℕ) where
  -- before the first token
  pub none_yet : AreShiftedBehind m w 0 []
  none_yet = record {
    below = All-nil (λ t. t < 0);
    are = All-nil (IsShiftedBehind m w);
    all = λ t below shifted. absurd (omega (arith, below));
  }

  module _ (k : ℕ) (ts : List ℕ) (a : AreShiftedBehind m w k ts) where
    -- those so far are below the next bound too
    still_below : All (λ t. t < k + 1) ts
    still_below = All-weaker (λ t. t < k) (λ t. t < k + 1) (λ t below. omega (arith, below)) ts a.below

    -- one that it shifts
    pub one_more : IsShiftedBehind m w k → AreShiftedBehind m w (k + 1) (ts ++ k ∷ [])
    one_more here = record {
      below = All-push (λ t. t < k + 1) ts k still_below (omega arith);
      are = All-push (IsShiftedBehind m w) ts k a.are here;
      all = λ t below shifted.
          ⊎_elim
          (λ (l : t < k). Contains-append_left ts (k ∷ []) t (a.all t l shifted))
          (λ (l : k ≤ t). let same : k ≡ t = omega (arith, below, l) in subst (Contains (ts ++ k ∷ [])) same (Contains-push ts k))
          (cases_lt t k);
    }

    -- one that it doesn't
    pub none_more : (IsShiftedBehind m w k → ⊥) → AreShiftedBehind m w (k + 1) ts
    none_more not_here = record {
      below = still_below;
      are = a.are;
      all = λ t below shifted.
          ⊎_elim
          (λ (l : t < k). a.all t l shifted)
          (λ (l : k ≤ t). let same : t ≡ k = omega (arith, below, l) in absurd (not_here (subst (IsShiftedBehind m w) same shifted)))
          (cases_lt t k);
    }
