-- the first number in a list of which something holds
use Rattle.std.proofs.Common.{ℕ, ◌+◌, ◌<◌, List, ◌∷◌, ◌++◌, length, get_or, take, drop, refl, sym, ap, ◌∙◌, add-one, drop-cons, arith}
use Rattle.std.specs.List.{All, Contains}
use Rattle.std.proofs.lemmas.List.{take-append-drop}
use Rattle.std.proofs.lemmas.List.Elements.{All-contains, Contains-append_right}
use Rattle.lrplacing.specs.ChosenPlaces.{HoldsOfNone, IsFirstWith}

-- a place of which it holds, where it holds of no place before
pub first_at : (P : ℕ → Type 0) (ks : List ℕ) (i : ℕ) → i < length ks → HoldsOfNone P (take i ks) → P (get_or ks i 0) → IsFirstWith P ks (get_or ks i 0)
first_at P ks i l none here = record {
  before = take i ks;
  after = drop (i + 1) ks;
  splits = sym (take-append-drop i ks) ∙ ap (λ r. take i ks ++ r) (rw add-one (drop-cons ks i 0 l));
  here = here;
  none_before = none;
}

-- it is in the list
first_contained : {P : ℕ → Type 0} {ks : List ℕ} {k : ℕ} → IsFirstWith P ks k → Contains ks k
first_contained {P} {ks} {k} f = rw f.splits (Contains-append_right f.before (k ∷ f.after) k (0, omega arith, refl))

-- what holds of all in the list holds of it
pub first_among : {P : ℕ → Type 0} (Q : ℕ → Type 0) {ks : List ℕ} {k : ℕ} → All Q ks → IsFirstWith P ks k → Q k
first_among Q {ks} {k} all f = All-contains Q ks k all (first_contained f)
