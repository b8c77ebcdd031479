-- what is found in a list of directives
use Rattle.std.proofs.Common.{◌≡◌, ℕ, zero, suc, ◌<◌, inl, inr, arith, List, [], ◌∷◌, Option, None, Some, get_or, length, refl, ap, sym, ◌∙◌, subst}
use Rattle.std.specs.Prelude.{IfSome, MatchOption, slice_get}
use Rattle.std.specs.Option.{option_map}
use Rattle.std.proofs.lemmas.Option.{get_or_from_slice_get, slice_get_cases}
use Rattle.lryacc.specs.Directives.{Each}

-- one of a list is found
pub listed-found : {A B : Type 0} (xs : List A) (word : A → List ℕ) (form : A → B) (name : List ℕ) (at : ℕ) (d : A) (r : Option B) → at < length xs → r ≡ option_map form (slice_get xs at) → word (get_or xs at d) ≡ name → IfSome r (λ f. (at : ℕ) × MatchOption (slice_get xs at) ⊥ (λ x. (word x ≡ name) × (form x ≡ f)))
listed-found {A} {B} xs word form name at d r within is named =
    elim (slice_get_cases xs at).1 [
      | inl h ↦ let here = h.2 in
          let same : word h.0 ≡ name = ap word (sym (get_or_from_slice_get xs at h.0 d here)) ∙ named in
          subst (λ (r : Option B). IfSome r (λ f. (at : ℕ) × MatchOption (slice_get xs at) ⊥ (λ x. (word x ≡ name) × (form x ≡ f))))
          (sym (is ∙ ap (option_map form) here)) (at, rw here (same, refl))
      | inr h ↦ absurd (omega (arith, within, h.0))
    ]

-- what holds of each in a list holds of the one that is found
picked : {A B : Type 0} (xs : List A) (word : A → List ℕ) (form : A → B) (name : List ℕ) (f : B) (P : List ℕ → B → Type 0) (x : A) → P (word x) (form x) → (word x ≡ name) × (form x ≡ f) → P name f
picked {A} {B} xs word form name f P x here same =
    subst (λ (w : List ℕ). P w f) same.0 (subst (λ (b : B). P (word x) b) same.1 here)

pub all-found : {A B : Type 0} (xs : List A) (word : A → List ℕ) (form : A → B) (name : List ℕ) (f : B) (P : List ℕ → B → Type 0) (at : ℕ) → MatchOption (slice_get xs at) ⊥ (λ x. (word x ≡ name) × (form x ≡ f)) → Each (λ x. P (word x) (form x)) xs → P name f
all-found {A} {B} [] word form name f P at found all = absurd found
all-found {A} {B} (x ∷ xs) word form name f P zero found all = picked xs word form name f P x all.0 found
all-found {A} {B} (x ∷ xs) word form name f P (suc at) found all = all-found xs word form name f P at found all.1

-- what is found holds in other words
pub each-some : {A : Type 0} (r : Option A) (P Q : A → Type 0) → IfSome r P → ((a : A) → P a → Q a) → IfSome r Q
each-some None P Q p f = tt
each-some (Some a) P Q p f = f a p
