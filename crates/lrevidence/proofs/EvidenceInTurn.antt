-- what is known of one entry more, and of all
use Rattle.std.proofs.Common.{◌≡◌, ◌+◌, ◌<◌, ℕ, List, [], ◌∷◌, ◌++◌, length, map, take, refl}
use Rattle.std.specs.Prelude.{All, slice_index_or}
use Rattle.std.proofs.lemmas.List.{map-append, take_more}
use Rattle.lrshown.specs.declared.evidence.Evidence.{Evidence}
use Rattle.lrevidence.specs.declared.searches.Searches.{Searches}
use Rattle.lrevidence.specs.Ambiguities.{IsProved, PartsAtEntry}
use Rattle.lrevidence.specs.DecidedEntries.{IsDecidedOf}
use Rattle.lrevidence.specs.Losses.{IsFoundAtEntry}
use Rattle.lrevidence.specs.Searches.{IsKnownBy}

-- the images of one list are the beginning of another one, with one element more in both
pub one_more :
    {X Y : Type 0} (f : X → Y) (old new : List X) (x : X) (items : List Y) (i : ℕ) (d : Y)
    → i < length items → map f old ≡ take i items → new ≡ old ++ x ∷ [] → f x ≡ slice_index_or items i d
    → map f new ≡ take (i + 1) items
one_more f old new x items i d l so more same =
    rw (more, map-append f old (x ∷ []), take_more items i d l, so, same) refl

-- each part of what is known of all
module _ (s : Searches) (es : List Evidence) (known : All (IsKnownBy s) es) where
  pub all_proved : All (IsProved s.reasons.grammar) es
  all_proved = λ k d l. (known k d l).proved

  pub all_part : All (PartsAtEntry s.reasons.grammar s.reasons.graph) es
  all_part = λ k d l. (known k d l).parts

  pub all_lost : All (IsFoundAtEntry s.losses) es
  all_lost = λ k d l. (known k d l).lost

  pub all_decided : All (IsDecidedOf s.decisions.grammar s.decisions.graph) es
  all_decided = λ k d l. (known k d l).decided
