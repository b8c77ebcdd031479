-- what holds of each sentence that is found to be lost
use Rattle.std.proofs.Common.{◌≡◌, ℕ, Bool, true, List, Option, None, Some}
use Rattle.std.specs.Prelude.{All, IfSome, IsSome, IsTrue, is_some, slice_index_or}
use Rattle.std.specs.Option.{option_map}
use Rattle.lrshown.specs.declared.evidence.Evidence.{Evidence}
use Rattle.lrshown.specs.declared.losses.Loss.{Loss}
use Rattle.lrentries.specs.Losses.{Searched, IsToldOf, IsFoundLoss, StopsWithoutShift, AreApart, IsDoomedIn}
use Rattle.lrevidence.specs.Losses.{IsLostAt, IsLostAtEntry, IsFoundFor, IsFoundAtEntry, StopsAtEntry, IsDoomedAtEntry}

-- what follows for a value follows for one that there may be
some_so : {T : Type 0} (P Q : T → Type 0) (o : Option T) → ((x : T) → P x → Q x) → IfSome o P → IfSome o Q
some_so P Q None f h = tt
some_so P Q (Some x) f h = f x h

-- with a value there is an image
pub has_image : {A B : Type 0} (f : A → B) (o : Option A) (e : Option B) → option_map f o ≡ e → IsSome o → is_some e ≡ true
has_image f None e image some = absurd (cc)
has_image f (Some a) e image some = cc

-- what is found is found for an entry, if it is doomed where a sentence with two trees is told
pub found_for :
    (x : Searched) (e : Evidence) (o : Option Loss) → IfSome o (IsFoundLoss x e.entry.state e.entry.token)
    → (IsSome e.ambiguity → IfSome o (IsDoomedIn x)) → IfSome o (IsFoundFor x e)
found_for x e None found doomed = tt
found_for x e (Some l) found doomed = record { found = found; doomed = doomed }

module _ (x : Searched) (es : List Evidence) (found : All (IsFoundAtEntry x) es) where
  pub are_lost : All (IsLostAtEntry x.grammar x.table) es
  are_lost = λ k d l.
      let e = slice_index_or es k d in
      some_so (λ b. IsFoundFor x e b.value) (λ b. IsLostAt x.grammar x.table e.entry.state e.entry.token b.value)
      e.loss (λ b known. known.found.lost) (found k d l)

  pub stop_so : All (StopsAtEntry x.grammar x.graph x.table) es
  stop_so = λ k d l.
      let e = slice_index_or es k d in
      some_so (λ b. IsFoundFor x e b.value) (λ b. StopsWithoutShift x.grammar x.graph x.table b.value)
      e.loss (λ b known. known.found.stops) (found k d l)

  pub are_apart : All (λ e. IfSome e.loss (λ b. AreApart x.resolved x.listed)) es
  are_apart = λ k d l.
      let e = slice_index_or es k d in
      some_so (λ b. IsFoundFor x e b.value) (λ b. AreApart x.resolved x.listed)
      e.loss (λ b known. known.found.apart) (found k d l)

  pub are_doomed : All (IsDoomedAtEntry x.grammar x.table) es
  are_doomed = λ k d l.
      let e = slice_index_or es k d in
      λ both. some_so (λ b. IsFoundFor x e b.value) (λ b. IsDoomedIn x b.value) e.loss (λ b known. known.doomed both) (found k d l)

-- what is told of what is found is found, and doomed where that is asked
module _ (x : Searched) (must : Bool) where
  pub told_found :
      (s t : ℕ) (found o : Option Loss) → IfSome found (IsFoundLoss x s t) → IfSome o (IsToldOf x found must) → IfSome o (IsFoundLoss x s t)
  told_found s t found None known told = tt
  told_found s t found (Some l) known (is, doomed) = rw is at known

  pub told_doomed : IsTrue must → (found o : Option Loss) → IfSome o (IsToldOf x found must) → IfSome o (IsDoomedIn x)
  told_doomed asked found None told = tt
  told_doomed asked found (Some l) (is, doomed) = doomed asked
