-- entries that are told in groups: what holds of each holds of those of each group
use Rattle.std.proofs.Common.{◌≡◌, ℕ, Option, None, Some, ◌<◌, List, [], ◌∷◌, ◌++◌, length, map, get_or, sym, ap, subst, ◌∙◌}
use Rattle.std.proofs.Math.Seq.{take-append_seam, drop-append_seam}
use Rattle.std.proofs.lemmas.List.Folds.{flat_map-map}
use Rattle.std.proofs.lemmas.List.Elements.{All-nil, All-cons, All-take, All-drop}
use Rattle.std.proofs.lemmas.List.Elements.{All-same, All-weaker}
use Rattle.std.specs.List.{All, flat_map}
use Rattle.std.specs.Option.{ForSome}
use Rattle.std.specs.Prelude.{IfSome}
use Rattle.lrspec.specs.grammars.Grammar.{Grammar}
use Rattle.lrshown.specs.declared.evidence.Evidence.{Evidence}
use Rattle.lrspec.specs.merging.Graph.{Graph}
use Rattle.lrspec.specs.tables.Table.{Table}
use Rattle.lrshown.specs.Losses.{AreShownLosses}
use Rattle.lrshown.specs.DecidedEntries.{AreShownDecided}
use Rattle.lrevidence.specs.Ambiguities.{IsProved, AreShown}
use Rattle.lrevidence.specs.Losses.{IsLostAtEntry}
use Rattle.lrevidence.specs.DecidedEntries.{IsToldDecided}
use Rattle.lrevidence.specs.KeptEntries.{IsKeptEntry, IsToldKept, AreToldKept}
use Rattle.lrpage.specs.KeptEntries.{IsShownKept, AreShownKept}
use Rattle.lrverdicts.specs.declared.conflicts.Entry.{Entry}

module _ {A X : Type 0} (P : X → Type 0) (items : A → List X) where
  parted : (one others : List X) → All P (one ++ others) → All P one × All P others
  parted one others each = (
    rw (take-append_seam one others) at (All-take P (length one) (one ++ others) each),
    rw (drop-append_seam one others) at (All-drop P (length one) (one ++ others) each),
  )

  joined : (groups : List A) → All P (flat_map items groups) → All (λ group. All P (items group)) groups
  joined [] each = All-nil (λ group. All P (items group))
  joined (first ∷ groups) each =
      let (front, behind) = parted (items first) (flat_map items groups) each in
      All-cons (λ group. All P (items group)) first groups front (joined groups behind)

  module _ (groups : List A) (all : List X) (are : flat_map items groups ≡ all) (each : All P all) where
    pub in_groups : All (λ group. All P (items group)) groups
    in_groups = joined groups (All-same P (flat_map items groups) all are each)

    pub in_group :
        (i : ℕ) (group : A) → i < length groups → group ≡ get_or groups i group → All P (items group)
    in_group i group inside is = subst (λ it. All P (items it)) (sym is) (in_groups i group inside)

-- what is joined of the same lists is the same
pub same_joined :
    {A B X : Type 0} (f : A → List X) (g : B → List X) (xs : List A) (ys : List B) → map f xs ≡ map g ys
    → flat_map f xs ≡ flat_map g ys
same_joined f g xs ys same = sym (flat_map-map (λ v. v) f xs) ∙ ap (flat_map (λ v. v)) same ∙ flat_map-map (λ v. v) g ys

-- what is proved of a value, if there is one, may be shown
pub known_shown : {X : Type 0} (P : X → Type 0) (o : Option X) → IfSome o P → ForSome o (λ x. ∥ P x ∥₁)
known_shown P o known x is = let so = rw is at known in ∣ so ∣₁

-- what is proved of entries may be shown
shown : (g : Grammar) (evidence : List Evidence) → All (IsProved g) evidence → AreShown g evidence
shown g evidence proved k d inside a is = let known = rw is at (proved k d inside) in ∣ known ∣₁

-- and what is proved of those that are rejected
shown_lost : (g : Grammar) (b : Table) (evidence : List Evidence) → All (IsLostAtEntry g b) evidence → AreShownLosses g b evidence
shown_lost g b evidence lost k d inside l is = let known = rw is at (lost k d inside) in ∣ (_, _, known) ∣₁

-- and what is proved of those that are decided
shown_decided : (g : Grammar) (o : Option Graph) (evidence : List Evidence) → All (IsToldDecided g o) evidence → AreShownDecided g o evidence
shown_decided g o evidence decided k d inside = let known = decided k d inside in ∣ known ∣₁

pub all_shown :
    {B : Type 0} (g : Grammar) (told : B → List Evidence) (those : List B)
    → All (λ one. All (IsProved g) (told one)) those → All (λ one. AreShown g (told one)) those
all_shown g told those proved =
    let may_be_shown = λ (one : _) (each : All (IsProved g) (told one)). shown g (told one) each in
    All-weaker (λ one. All (IsProved g) (told one)) (λ one. AreShown g (told one)) may_be_shown those proved

pub all_shown_lost :
    {B : Type 0} (g : Grammar) (b : Table) (told : B → List Evidence) (those : List B)
    → All (λ one. All (IsLostAtEntry g b) (told one)) those → All (λ one. AreShownLosses g b (told one)) those
all_shown_lost g b told those lost =
    let may_be_shown = λ (one : _) (each : All (IsLostAtEntry g b) (told one)). shown_lost g b (told one) each in
    All-weaker (λ one. All (IsLostAtEntry g b) (told one)) (λ one. AreShownLosses g b (told one)) may_be_shown those lost

pub all_shown_decided :
    {B : Type 0} (g : Grammar) (o : Option Graph) (told : B → List Evidence) (those : List B)
    → All (λ one. All (IsToldDecided g o) (told one)) those → All (λ one. AreShownDecided g o (told one)) those
all_shown_decided g o told those decided =
    let may_be_shown = λ (one : _) (each : All (IsToldDecided g o) (told one)). shown_decided g o (told one) each in
    All-weaker (λ one. All (IsToldDecided g o) (told one)) (λ one. AreShownDecided g o (told one)) may_be_shown those decided

-- and what is proved of entries that lose no sentence
shown_kept : (g : Grammar) (o : Option Graph) (b : Table) (e : Entry) → IsToldKept g o b e → IsShownKept g o b e
shown_kept g None b e kept = absurd kept
shown_kept g (Some h) b e kept = let both : IsKeptEntry g h b e = kept in ∣ (both.one, both.other) ∣₁

pub all_shown_kept : (g : Grammar) (o : Option Graph) (b : Table) (entries : List Entry) → AreToldKept g o b entries → AreShownKept g o b entries
all_shown_kept g o b entries kept = All-weaker (IsToldKept g o b) (IsShownKept g o b) (shown_kept g o b) entries kept
