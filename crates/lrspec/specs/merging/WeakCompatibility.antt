-- when two item sets may be merged, how two cross, and the union of two
use Rattle.std.specs.Prelude.{◌≡◌, ℕ, ◌⊎◌, ◌↔◌}
use Rattle.lrspec.specs.grammars.ItemSets.{Items, HasItem, LooksIn}

-- both have the same items
abbrev pub SameItems : Items → Items → Type 0
SameItems a b = (p d : ℕ) → HasItem a p d ↔ HasItem b p d

-- two items are not the same
abbrev pub Apart : ℕ → ℕ → ℕ → ℕ → Type 0
Apart p d q e = p ≡ q → d ≡ e → ⊥

-- the one item in `a` and the other in `b` look at one token
abbrev pub Meet : Items → ℕ → ℕ → Items → ℕ → ℕ → Type 0
Meet a p d b q e = (t : ℕ) × LooksIn a p d t × LooksIn b q e t

-- what weak compatibility asks of two items: they meet neither way across, or they share a token in
-- `a`, or in `b`
abbrev pub Passes : Items → Items → ℕ → ℕ → ℕ → ℕ → Type 0
Passes a b p d q e =
    ((Meet a p d b q e → ⊥) × (Meet b p d a q e → ⊥))
    ⊎ Meet a p d a q e
    ⊎ Meet b p d b q e

-- two item sets may be merged: they have the same items, of which every two pass
pub record IsWeaklyCompatible (a b : Items) : Type 0 where
  pub items : SameItems a b
  pub pairs :
      (p d q e : ℕ) → Apart p d q e → HasItem a p d → HasItem a q e → Passes a b p d q e

-- a token at which an item looks in one of the item sets is one at which another item looks in the
-- other
pub record Cross (a b : Items) : Type 0 where
  pub p : ℕ
  pub d : ℕ
  pub q : ℕ
  pub e : ℕ
  pub apart : Apart p d q e
  pub meet : Meet a p d b q e

-- two item sets are not weakly compatible at two items: these cross, and share no token in either
pub record Clash (a b : Items) : Type 0 where
  pub cross : Cross a b
  pub first : Meet a cross.p cross.d a cross.q cross.e → ⊥
  pub second : Meet b cross.p cross.d b cross.q cross.e → ⊥

-- `c` is the union of `a` and `b`, which have the same items
pub record IsUnion (a b c : Items) : Type 0 where
  pub items : SameItems c a
  pub looks : (p d t : ℕ) → LooksIn c p d t ↔ (LooksIn a p d t ⊎ LooksIn b p d t)
