-- the tokens before start rules
use Rattle.std.proofs.Common.{◌≡◌, ◌≢◌, nat_eq, ℕ, zero, suc, List, [], ◌∷◌, ◌++◌, length, map, Bool, true, false, Some, refl, ap, sym, ◌∙◌, subst, arith}
use Rattle.std.specs.Prelude.{slice_get}
use Rattle.std.proofs.lemmas.Bool.Decides.{nat_tests}
use Rattle.std.proofs.lemmas.List.{length_push}
use Rattle.lryacc.specs.declared.dialects.Dialect.{Dialect}
use Rattle.lryacc.specs.declared.lexemes.Lexeme.{Lexeme}
use Rattle.lryacc.specs.BodyProductions.{AreMarks, AreRelated, IsMark, IsMarkName, IsMarkOf, Keeps, is_one}
use Rattle.lryacc.specs.BodyProductions.AreRelated.{none, more}
use Rattle.lryacc.specs.NamedSymbols.{Names, name_of}
use Rattle.lryacc.proofs.Numbered.{has-added, has-more}

-- an element of a list behind which one more stands
data IsIn {A : Type 0} (xs : List A) (x y : A) (i : ℕ) : Type 0 where
  before : slice_get xs i ≡ Some y → IsIn xs x y i
  last : i ≡ length xs → x ≡ y → IsIn xs x y i

is-in : {A : Type 0} (xs : List A) (x y : A) (i : ℕ) → slice_get (xs ++ x ∷ []) i ≡ Some y → IsIn xs x y i
is-in [] x y zero e = last refl (cc)
is-in [] x y (suc i) e = absurd (cc)
is-in (z ∷ xs) x y zero e = before e
is-in (z ∷ xs) x y (suc i) e = elim (is-in xs x y i e) [
  | before h ↦ before h
  | last h d ↦ last (omega arith) d
]

-- lists that are related are of one length
related-length : {A B : Type 0} {R : A → B → Type 0} {xs : List A} {ys : List B} → AreRelated R xs ys → length xs ≡ length ys
related-length none = refl
related-length (more {xs} {ys} x y rest one) =
    let same = related-length rest in
    omega (arith, length_push xs x, length_push ys y)

-- what one list has at a place is related to what the other has there
pub related-at : {A B : Type 0} {R : A → B → Type 0} {xs : List A} {ys : List B} → AreRelated R xs ys → (i : ℕ) (z : A) → slice_get xs i ≡ Some z → (w : B) × (slice_get ys i ≡ Some w) × R z w
related-at none i z e = absurd (cc)
related-at {A} {B} {R} (more {xs} {ys} x y rest one) i z e = elim (is-in xs x z i e) [
  | before h ↦
      let found = related-at rest i z h in
      (found.0, has-more ys (y ∷ []) i found.0 found.1, found.2)
  | last h d ↦
      let at : i ≡ length ys = h ∙ related-length rest in
      (y, ap (slice_get (ys ++ y ∷ [])) at ∙ has-added ys y, subst (λ (v : A). R v y) d one)
]

-- what is related is so in a weaker way
pub related-weaker : {A B : Type 0} {R S : A → B → Type 0} {xs : List A} {ys : List B} → ((x : A) (y : B) → R x y → S x y) → AreRelated R xs ys → AreRelated S xs ys
related-weaker f none = none
related-weaker f (more x y rest one) = more x y (related-weaker f rest) (f x y one)

-- what is read of an element
pub mapped-at : {A B : Type 0} (f : A → B) (xs : List A) (i : ℕ) (x : A) → slice_get xs i ≡ Some x → slice_get (map f xs) i ≡ Some (f x)
mapped-at f [] i x e = absurd (cc)
mapped-at f (y ∷ xs) zero x e = let same : y ≡ x = cc in ap (λ z. Some (f z)) same
mapped-at f (y ∷ xs) (suc i) x e = mapped-at f xs i x e

-- a mark stays one where tokens are added
pub mark-kept : (old new : Names) (start : Lexeme) (mark : ℕ) → new.text ≡ old.text → new.dialect ≡ old.dialect → Keeps old.tokens new.tokens → IsMarkOf old start mark → IsMarkOf new start mark
mark-kept old new start mark text dialect keeps h = record {
  text = h.text;
  here = keeps mark h.text h.here;
  is =
      subst (λ (t : List ℕ). IsMarkName (name_of t new.dialect start) h.text) (sym text)
      (subst (λ (d : Dialect). IsMarkName (name_of old.text d start) h.text) (sym dialect) h.is);
}

-- there are several start rules, or none
several : (n : ℕ) → n ≢ 1 → nat_eq n 1 ≡ false
several n other = grind (arith, nat_tests)

pub marks-several : (names : Names) (starts : List Lexeme) (marks : List ℕ) → length starts ≢ 1 → AreRelated (IsMarkOf names) starts marks → AreMarks names (is_one starts) starts marks
marks-several names starts marks other all =
    subst (λ (only : Bool). AreMarks names only starts marks) (sym (several (length starts) other)) all

-- the mark at a place is that of the start rule there
pub mark-at : (names : Names) (starts : List Lexeme) (marks : List ℕ) (only : Bool) → AreMarks names only starts marks → (at : ℕ) (start : Lexeme) → slice_get starts at ≡ Some start → IsMark names only start (slice_get marks at)
mark-at names starts marks true all at start is = ap (λ (ms : List ℕ). slice_get ms at) all
mark-at names starts marks false all at start is =
    let found = related-at all at start is in
    (found.0, found.1, found.2)
