-- what is known of the graph that is kept, where one is
use Rattle.std.proofs.Common.{◌≡◌, Bor, List, [], Option, None, Some, All, option_map, refl, sym, subst}
use Rattle.std.proofs.lemmas.List.Elements.{All-nil, All-weaker}
use Rattle.std.specs.Prelude.{IfNone, IfSome, MatchOption, is_some}

module _ {X : Type 0} (x : X) (P : X → Type 0) where
  -- it is this one
  pub of_kept : (o : Option X) → IfSome o (λ y. y ≡ x) → P x → IfSome o P
  of_kept None same p = tt
  of_kept (Some y) same p = subst P (sym same) p

  -- and it is so where one is kept
  pub at_kept : (o : Option X) → IfSome o (λ y. y ≡ x) → MatchOption o ⊥ P → P x
  at_kept None same kept = absurd kept
  at_kept (Some y) same kept = subst P same kept

  pub kept_or : (o : Option X) (N : Type 0) → IfSome o (λ y. y ≡ x) → P x → IfNone o N → MatchOption o N P
  kept_or None N same p none = none
  kept_or (Some y) N same p none = subst P (sym same) p

-- without one less is enough
pub weaker_without : {X : Type 0} (o : Option X) (M N : Type 0) (P : X → Type 0) → (M → N) → MatchOption o M P → MatchOption o N P
weaker_without None M N P f m = f m
weaker_without (Some y) M N P f m = m

-- what is so of each by the graph that is kept is so by this one; without one there is none
pub each_of_kept :
    {X Y : Type 0} (x : X) (P : X → Y → Type 0) (ys : List Y) (o : Option X)
    → IfSome o (λ y. y ≡ x) → MatchOption o (ys ≡ []) (λ h. All (P h) ys) → All (P x) ys
each_of_kept x P ys None same none = rw none (All-nil (P x))
each_of_kept x P ys (Some y) same each = subst (λ h. All (P h) ys) same each

-- what is told of each by the graph that is kept is so by this one
pub told_of_kept :
    {X Y : Type 0} (x : X) (Q : Y → Type 0) (P : X → Y → Type 0) (ys : List Y) (o : Option X) → ((y : Y) → Q y → P x y)
    → IfSome o (λ y. y ≡ x) → All (λ y. MatchOption o (Q y) (λ h. P h y)) ys → All (P x) ys
told_of_kept x Q P ys None weaker same each = All-weaker Q (P x) weaker ys each
told_of_kept x Q P ys (Some y) weaker same each = subst (λ h. All (P h) ys) same each

-- what is told of each only by a graph that is kept is so by this one
pub each_at_kept :
    {X Y : Type 0} (x : X) (P : X → Y → Type 0) (ys : List Y) (o : Option X)
    → IfSome o (λ y. y ≡ x) → All (λ y. MatchOption o ⊥ (λ h. P h y)) ys → All (P x) ys
each_at_kept x P ys None same each = All-weaker (λ y. ⊥) (P x) (λ y none. absurd none) ys each
each_at_kept x P ys (Some y) same each = subst (λ h. All (P h) ys) same each

-- there is something behind the references just where there is something
pub is_some_referred : {X : Type 0} (o : Option X) (r : Option (Bor X)) → option_map (λ b. b.now) r ≡ o → is_some r ≡ is_some o
is_some_referred None None e = refl
is_some_referred None (Some b) e = absurd cc
is_some_referred (Some x) None e = absurd cc
is_some_referred (Some x) (Some b) e = refl
