-- what always holds of the states under construction
use Rattle.std.specs.Prelude.{◌≡◌, ℕ, ◌<◌, true, List, [], ◌∷◌, Some, length, slice_get, ◌↔◌}
use Rattle.lrspec.specs.grammars.Grammar.{Symbol, Grammar}
use Rattle.lrspec.specs.grammars.ItemSets.{Items, HasItem, LooksIn, Fits, IsContained, ClosedItem, ClosedLook, IsBefore, Moved}
use Rattle.lrspec.specs.grammars.StartState.{IsStartCore}
use Rattle.lrspec.specs.merging.Cores.{IsRootedBy}
use Rattle.lrspec.specs.merging.WeakCompatibility.{SameItems, Cross}
use Rattle.lrspec.specs.merging.Sharing.{IsShared}
use Rattle.lrspec.specs.merging.Chains.{IsChain}
use Rattle.lrplacing.specs.Construction.{Draft, core_at, closed_at, edge_from}

-- some lists root the item set and share it
abbrev pub HasSharing : Grammar → Items → Type 0
HasSharing g a = (ws : List (List Symbol)) × IsRootedBy g ws a × IsShared g ws a

-- the item set has the items of the goto on `x` of what the core of the state `k` closes to
abbrev pub HasItemsOfGoto : Grammar → List Draft → ℕ → Symbol → Items → Type 0
HasItemsOfGoto g ss k x a =
    (p d : ℕ) → HasItem a p d ↔ Moved g x (ClosedItem g (HasItem (core_at ss k))) p d

-- the goto on `x` of the state `from` may be placed
pub record MayBePlaced (g : Grammar) (ss : List Draft) (from : ℕ) (x : Symbol) (goto : Items)
    : Type 0 where
  pub fits : Fits g goto
  pub sharing : HasSharing g goto
  pub items : HasItemsOfGoto g ss from x goto

-- the edge of the state `k` on `x` leads to `u`, whose core has the items of the goto
pub record LeadsToItems (g : Grammar) (ss : List Draft) (k : ℕ) (x : Symbol) (u : ℕ) : Type 0 where
  pub below : u < length ss
  pub items : HasItemsOfGoto g ss k x (core_at ss u)

-- every two states whose cores have the same items cross
abbrev pub AllCross : List Draft → Type 0
AllCross ss =
    (j k : ℕ) → j < k → k < length ss → SameItems (core_at ss j) (core_at ss k)
    → Cross (core_at ss j) (core_at ss k)

-- there is a chain with an item set for each state, which its core contains and whose items are its own
pub record HasChain (g : Grammar) (ss : List Draft) : Type 0 where
  pub chain : List Items
  pub is_chain : IsChain g chain
  pub length_is : length chain ≡ length ss
  pub same : (k : ℕ) (a : Items) → slice_get chain k ≡ Some a → SameItems a (core_at ss k)
  pub contained : (k : ℕ) (a : Items) → slice_get chain k ≡ Some a → IsContained a (core_at ss k)

-- at every moment: the first state is the start state; cores fit the grammar and are shared; edges lead to states with
-- the items of the goto; states with the same items cross; and a chain is as long as there are states
pub record Holds (g : Grammar) (ss : List Draft) : Type 0 where
  pub some : 0 < length ss
  pub start : IsStartCore g (core_at ss 0)
  pub fits : (k : ℕ) → k < length ss → Fits g (core_at ss k)
  pub sharing : (k : ℕ) → k < length ss → HasSharing g (core_at ss k)
  pub edges : (k u : ℕ) (x : Symbol) → edge_from ss k x ≡ Some u → LeadsToItems g ss k x u
  pub cross : AllCross ss
  pub chain : HasChain g ss

-- the goto on `x` of what the core of the state `k` closes to is contained in the state to which the edge of `k` leads
pub record LeadsOver (g : Grammar) (ss : List Draft) (k : ℕ) (x : Symbol) : Type 0 where
  pub to : ℕ
  pub is : edge_from ss k x ≡ Some to
  pub looks :
      (p d t : ℕ)
      → Moved g x (λ q e. ClosedLook g (HasItem (core_at ss k)) (LooksIn (core_at ss k)) q e t) p d
      → LooksIn (core_at ss to) p d t

-- where the state `k` is closed, it has an edge on every symbol before which what its core closes to has an item, and the
-- state there contains the goto; of a state whose gotos are being placed this does not hold yet
abbrev pub HasGotos : Grammar → List Draft → ℕ → Type 0
HasGotos g ss k =
    closed_at ss k ≡ true
    → (p d : ℕ) (x : Symbol) → ClosedItem g (HasItem (core_at ss k)) p d → IsBefore g p d x
    → LeadsOver g ss k x

-- all states are closed
abbrev pub AreClosed : List Draft → Type 0
AreClosed ss = (k : ℕ) → k < length ss → closed_at ss k ≡ true

-- each of the gotos of the state `from` may be placed
abbrev pub AllMayBePlaced : Grammar → List Draft → ℕ → List (Symbol × Items) → Type 0
AllMayBePlaced g ss from [] = Unit {0}
AllMayBePlaced g ss from (e ∷ es) = MayBePlaced g ss from e.0 e.1 × AllMayBePlaced g ss from es
