-- What a map has found so far: names by their places, and kinds by their levels.
use Rattle.std.specs.Prelude.{◌≡◌, ℕ, ◌<◌, List, [], ◌≢◌, Option, None, Some, IsSome, slice_get, slice_index_or}
use Rattle.std.specs.Option.{option_and_then}
use Rattle.lrtext.specs.declared.parts.AssocKind.{AssocKind}
use Rattle.lrtext.specs.declared.parts.PartToken.{PartToken}
use Rattle.lrtext.specs.declared.parts.Precedence.{Precedence}

-- the precedence of the token at a place
abbrev pub precedence_at : List PartToken → ℕ → Option Precedence
precedence_at ts k = option_and_then (λ t. t.precedence) (slice_get ts k)

-- a look-up by name over the first `n` names, which are all different: what it finds is the place of the name, and it
-- finds each of them
pub record FindsNames (look : List ℕ → Option ℕ) (names : List (List ℕ)) (n : ℕ) : Type 0 where
  pub found : (q : List ℕ) (k : ℕ) → look q ≡ Some k → (k < n) × (slice_index_or names k [] ≡ q)
  pub kept : (k : ℕ) → k < n → IsSome (look (slice_index_or names k []))
  pub apart : (j k : ℕ) → j < k → k < n → slice_index_or names j [] ≡ slice_index_or names k [] → ⊥

-- a look-up by level over the first `n` tokens: what it finds is the kind of one of them, and each has the kind that is
-- found at its level
pub record FindsKinds (look : ℕ → Option AssocKind) (tokens : List PartToken) (n : ℕ) : Type 0 where
  pub found : (level : ℕ) (kind : AssocKind) → look level ≡ Some kind
      → (k : ℕ) × (p : Precedence) × (k < n) × (precedence_at tokens k ≡ Some p) × (p.level ≡ level)
      × (p.kind ≡ kind)
  pub kept : (k : ℕ) (p : Precedence) → k < n → precedence_at tokens k ≡ Some p
      → look p.level ≡ Some p.kind

-- there was a kind, and another one
abbrev pub IsOtherKind : Option AssocKind → AssocKind → Type 0
IsOtherKind None kind = ⊥
IsOtherKind (Some was) kind = was ≢ kind

-- if there was a kind, it is the same
abbrev pub IsSameKind : Option AssocKind → AssocKind → Type 0
IsSameKind None kind = Unit {0}
IsSameKind (Some was) kind = was ≡ kind
