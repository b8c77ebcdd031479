-- words for weak compatibility by bits, and for what merging changes
use Rattle.std.specs.Prelude.{◌≡◌, ℕ, ◌<◌, Bool, List, Some, map, slice_get, ◌⊎◌}
use Rattle.lrspec.specs.grammars.Grammar.{Grammar}
use Rattle.lrspec.specs.grammars.ItemSets.{Items, LooksIn, Fits, AreUpwards}
use Rattle.lrspec.specs.merging.WeakCompatibility.{SameItems, Passes, IsUnion}
use Rattle.lrbits.specs.Bits.{Intersect}
use Rattle.lritems.specs.ItemsOf.{HaveBits}

-- all items of both item sets have one number of bits
abbrev pub HaveEquallyManyBits : Items → Items → Type 0
HaveEquallyManyBits a b = (n : ℕ) × HaveBits n a × HaveBits n b

-- both lists have the same items in the same order, whatever their bits
abbrev pub HaveSameKeys : Items → Items → Type 0
HaveSameKeys a b = map (λ e. e.0) a ≡ map (λ e. e.0) b

-- two items pass, by their bits: those of the first and the second in the one item set, and then
-- in the other
abbrev pub BitsPass : List Bool → List Bool → List Bool → List Bool → Type 0
BitsPass ai aj bi bj =
    ((Intersect ai bj → ⊥) × (Intersect bi aj → ⊥)) ⊎ Intersect ai aj ⊎ Intersect bi bj

-- two items meet one way across, and share no token in either item set, by the same bits
abbrev pub BitsClash : List Bool → List Bool → List Bool → List Bool → Type 0
BitsClash ai aj bi bj =
    (Intersect ai bj ⊎ Intersect bi aj) × (Intersect ai aj → ⊥) × (Intersect bi bj → ⊥)

-- the items at two places pass
abbrev pub PassAt : Items → Items → ℕ → ℕ → Type 0
PassAt a b i j =
    (e f : (ℕ × ℕ) × List Bool) → slice_get a i ≡ Some e → slice_get a j ≡ Some f
    → Passes a b e.0.0 e.0.1 f.0.0 f.0.1

-- the item at the place passes with each item behind it
abbrev pub PassesWithLater : Items → Items → ℕ → Type 0
PassesWithLater a b i = (j : ℕ) → i < j → PassAt a b i j

-- `b` looks at a token at which `a` does not
pub record Gains (a b : Items) : Type 0 where
  pub p : ℕ
  pub d : ℕ
  pub t : ℕ
  pub now : LooksIn b p d t
  pub before : LooksIn a p d t → ⊥

-- the core can take the goto in: both have the same items, of one number of bits, and those of the
-- goto come upwards
pub record CanTakeIn (core goto : Items) : Type 0 where
  pub items : SameItems core goto
  pub bits : HaveEquallyManyBits core goto
  pub upwards : AreUpwards goto

-- the core took the goto in: it is their union now, and fits each grammar that it fitted
pub record TookIn (old goto new : Items) : Type 0 where
  pub union : IsUnion old goto new
  pub fits : (g : Grammar) → Fits g old → Fits g new
