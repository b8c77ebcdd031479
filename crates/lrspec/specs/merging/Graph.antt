-- graphs of states, and when one is the grammar's
use Rattle.std.specs.Prelude.{◌≡◌, ◌≢◌, ℕ, ◌<◌, Bool, false, if◌then◌else◌, ◌==◌, List, [], ◌∷◌, ◌++◌, Option, None, Some, length, slice_get, ◌↔◌}
use Rattle.std.specs.List.{AllPairs}
use Rattle.std.specs.Option.{IsSome}
use Rattle.lrspec.specs.grammars.Grammar.{Symbol, Rule, Token, Grammar, IsProductionOf}
use Rattle.lrspec.specs.grammars.CanonicalItems.{Stands, Looks}
use Rattle.lrspec.specs.grammars.ItemSets.{Items, AreUpwards, HasItem, LooksIn, Fits, IsClosure, IsBefore, Moved}
use Rattle.lrspec.specs.grammars.StartState.{IsStartCore}
use Rattle.lrspec.specs.merging.Cores.{HasCoreAfter, IsRooted, IsRootedBy}
use Rattle.lrspec.specs.merging.WeakCompatibility.{SameItems, Apart, Cross}
use Rattle.lrspec.specs.merging.Sharing.{IsShared}

-- whether both are the same symbol
abbrev pub same_symbol : Symbol → Symbol → Bool
same_symbol (Rule r) (Rule s) = r == s
same_symbol (Rule r) (Token t) = false
same_symbol (Token t) (Rule s) = false
same_symbol (Token t) (Token u) = t == u

-- a state: its core, its closed state, and where its edges lead
pub record State : Type 0 where
  pub core : Items
  pub closed : Items
  pub edges : List (Symbol × ℕ)

-- a state lists its items upwards, and no symbol twice
pub record IsInOrder (s : State) : Type 0 where
  pub core : AreUpwards s.core
  pub closed : AreUpwards s.closed
  pub edges : AllPairs (λ e f. e.0 ≢ f.0) s.edges

-- a graph: its states by number, the start state first
abbrev pub Graph : Type 0
Graph = List State

-- where the first of these edges on `x` leads
abbrev pub edge_at : List (Symbol × ℕ) → Symbol → Option ℕ
edge_at [] x = None
edge_at (e ∷ es) x = if same_symbol x e.0 then Some e.1 else edge_at es x

-- the core of a state, empty without one
abbrev pub core_or_none : Option State → Items
core_or_none None = []
core_or_none (Some s) = s.core

-- the closed state of a state, empty without one
abbrev pub closed_or_none : Option State → Items
closed_or_none None = []
closed_or_none (Some s) = s.closed

-- the edges of a state, none without one
abbrev pub edges_or_none : Option State → List (Symbol × ℕ)
edges_or_none None = []
edges_or_none (Some s) = s.edges

-- the core of the state `s`
abbrev pub core_of : Graph → ℕ → Items
core_of h s = core_or_none (slice_get h s)

-- the closed state of the state `s`
abbrev pub closed_of : Graph → ℕ → Items
closed_of h s = closed_or_none (slice_get h s)

-- the edges of the state `s`
abbrev pub edges_of : Graph → ℕ → List (Symbol × ℕ)
edges_of h s = edges_or_none (slice_get h s)

-- the state to which the edge of `s` on `x` leads, if there is one
abbrev pub edge : Graph → ℕ → Symbol → Option ℕ
edge h s x = edge_at (edges_of h s) x

-- following the edges on the symbols of the list from the start state ends in the state
pub data Leads (h : Graph) : List Symbol → ℕ → Type 0 where
  start : Leads h [] 0
  follow :
      {w : List Symbol} {s u : ℕ} (x : Symbol) → Leads h w s → edge h s x ≡ Some u
      → Leads h (w ++ x ∷ []) u

-- closed states are the closures of their cores, and every item set fits the grammar
pub record AreClosures (g : Grammar) (h : Graph) : Type 0 where
  pub fit_cores : (s : ℕ) → s < length h → Fits g (core_of h s)
  pub fit_closed : (s : ℕ) → s < length h → Fits g (closed_of h s)
  pub closures : (s : ℕ) → s < length h → IsClosure g (core_of h s) (closed_of h s)
  -- core items of one rule with equal dots look at the same tokens
  pub sisters :
      (s p q d r t : ℕ) → s < length h → IsProductionOf g p r → IsProductionOf g q r
      → HasItem (core_of h s) q d → LooksIn (core_of h s) p d t
      → LooksIn (core_of h s) q d t
  -- the start state has the start item, looking at the end token
  pub some : 0 < length h
  pub start : IsStartCore g (core_of h 0)

-- where an edge leads: to a state whose core has the items of the goto, and contains it
pub record LeadsToGoto (g : Grammar) (h : Graph) (s : ℕ) (x : Symbol) (u : ℕ) : Type 0 where
  pub below : u < length h
  pub items : (p d : ℕ) → HasItem (core_of h u) p d ↔ Moved g x (HasItem (closed_of h s)) p d
  pub looks :
      (p d t : ℕ) → Moved g x (λ q e. LooksIn (closed_of h s) q e t) p d
      → LooksIn (core_of h u) p d t

-- a state has an edge on a symbol exactly if its closed state has an item before it, and edges
-- contain gotos
pub record ContainGotos (g : Grammar) (h : Graph) : Type 0 where
  pub edges :
      (s : ℕ) (x : Symbol)
      → IsSome (edge h s x) ↔ ((p : ℕ) × (d : ℕ) × HasItem (closed_of h s) p d × IsBefore g p d x)
  pub gotos : (s u : ℕ) (x : Symbol) → edge h s x ≡ Some u → LeadsToGoto g h s x u

-- every state is reached, no edge leads into the start state, and one symbol leads into each other
-- state
pub record AreReached (h : Graph) : Type 0 where
  pub reached : (s : ℕ) → s < length h → (w : List Symbol) × Leads h w s
  pub start : (s u : ℕ) (x : Symbol) → edge h s x ≡ Some u → u ≢ 0
  pub one_symbol :
      (s v u : ℕ) (x y : Symbol) → edge h s x ≡ Some u → edge h v y ≡ Some u → x ≡ y

-- states hold what stands and look at least where it looks, and every core is rooted
pub record HoldWhatStands (g : Grammar) (h : Graph) : Type 0 where
  pub cores : (w : List Symbol) (s : ℕ) → Leads h w s → HasCoreAfter g w (core_of h s)
  pub closed :
      (w : List Symbol) (s p d : ℕ) → Leads h w s
      → HasItem (closed_of h s) p d ↔ Stands g w p d
  pub looks :
      (w : List Symbol) (s p d t : ℕ) → Leads h w s → Looks g w p d t
      → LooksIn (closed_of h s) p d t
  pub leads : (w : List Symbol) (p d : ℕ) → Stands g w p d → (s : ℕ) × Leads h w s
  pub rooted : (s : ℕ) → s < length h → IsRooted g (core_of h s)

-- the graph is the grammar's
pub record IsGraphOf (g : Grammar) (h : Graph) : Type 0 where
  pub closures : AreClosures g h
  pub gotos : ContainGotos g h
  pub reached : AreReached h
  pub hold : HoldWhatStands g h

-- every core is rooted by lists by which it is shared
abbrev pub AreShared : Grammar → Graph → Type 0
AreShared g h =
    (s : ℕ) → s < length h
    → (ws : List (List Symbol)) × IsRootedBy g ws (core_of h s) × IsShared g ws (core_of h s)

-- merging invents no conflict: two items of a closed state that look at one token both look at one
-- token, perhaps another, after one list with the core of that state
abbrev pub InventsNoConflict : Grammar → Graph → Type 0
InventsNoConflict g h =
    (s p d q e t : ℕ) → s < length h → Apart p d q e
    → LooksIn (closed_of h s) p d t → LooksIn (closed_of h s) q e t
    → (w : List Symbol) × (u : ℕ) × HasCoreAfter g w (core_of h s)
    × Looks g w p d u × Looks g w q e u

-- two different states whose cores have the same items cross
abbrev pub CoresCross : Graph → Type 0
CoresCross h =
    (s u : ℕ) → s < length h → u < length h → s ≢ u → SameItems (core_of h s) (core_of h u)
    → Cross (core_of h s) (core_of h u)
