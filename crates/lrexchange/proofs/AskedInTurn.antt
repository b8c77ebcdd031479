-- lists that are gone through, and what is asked by them
use Rattle.std.proofs.Common.{◌≡◌, List, [], ◌∷◌, sym, subst, ◌⊎◌, inl, inr}
use Rattle.std.specs.Prelude.{Contains}
use Rattle.lrdecided.proofs.CollectedInTurn.{first_or_behind, none_contained}

-- each element of a list that is not left is so
pub record AllBut {A : Type 0} (P : A → Type 0) (all left : List A) : Type 0 where
  pub so : (x : A) → Contains all x → Contains left x ⊎ P x

pub begin_all : {A : Type 0} (P : A → Type 0) (all : List A) → AllBut P all all
begin_all P all = record { so = λ x k. inl k }

pub next_all :
    {A : Type 0} (P Q : A → Type 0) (all left : List A) (y : A) → AllBut P all (y ∷ left) → ((x : A) → P x → Q x) → Q y → AllBut Q all left
next_all P Q all left y k more here = record {
  so = λ x i. elim (k.so x i) [
    | inl j ↦ elim (first_or_behind y left x j) [
      | inl same ↦ inr (subst Q (sym same) here)
      | inr l ↦ inl l
    ]
    | inr j ↦ inr (more x j)
  ];
}

pub end_all : {A : Type 0} (P : A → Type 0) (all left : List A) → left ≡ [] → AllBut P all left → (x : A) → Contains all x → P x
end_all P all left e k x i = elim (k.so x i) [ inl j ↦ absurd (none_contained x (rw e at j)) | inr j ↦ j ]
