-- the states under construction as plain data, and what placing a goto does to them
use Rattle.std.specs.Prelude.{◌≡◌, ◌≢◌, ℕ, zero, suc, ◌+◌, ◌<◌, Bool, true, false, ◌==◌, ◌&&◌, if◌then◌else◌, List, [], ◌∷◌, Option, None, Some, length, slice_get, ◌⊎◌}
use Rattle.lrspec.specs.grammars.Grammar.{Symbol, Grammar}
use Rattle.lrspec.specs.grammars.ItemSets.{Items, LooksIn, Fits}
use Rattle.lrspec.specs.merging.WeakCompatibility.{SameItems, IsWeaklyCompatible, Clash, IsUnion}
use Rattle.lrspec.specs.merging.Graph.{same_symbol, edge_at}
pub use Rattle.lritems.specs.Merging.{Gains}

-- a state under construction: its core, whether it is closed or is still to be closed, and where its edges lead
pub record Draft : Type 0 where
  pub core : Items
  pub is_closed : Bool
  pub edges : List (Symbol × ℕ)

-- no symbol has two edges in the list
abbrev pub HasEdgesOnce : List (Symbol × ℕ) → Type 0
HasEdgesOnce [] = Unit {0}
HasEdgesOnce (e ∷ es) = (edge_at es e.0 ≡ None) × HasEdgesOnce es

abbrev pub draft_core : Option Draft → Items
draft_core None = []
draft_core (Some s) = s.core

abbrev pub draft_closed : Option Draft → Bool
draft_closed None = false
draft_closed (Some s) = s.is_closed

abbrev pub draft_edges : Option Draft → List (Symbol × ℕ)
draft_edges None = []
draft_edges (Some s) = s.edges

-- the core of the state `k`
abbrev pub core_at : List Draft → ℕ → Items
core_at ss k = draft_core (slice_get ss k)

-- whether the state `k` is closed
abbrev pub closed_at : List Draft → ℕ → Bool
closed_at ss k = draft_closed (slice_get ss k)

-- the state to which the edge of `k` on `x` leads, if there is one
abbrev pub edge_from : List Draft → ℕ → Symbol → Option ℕ
edge_from ss k x = edge_at (draft_edges (slice_get ss k)) x

-- the states, of which `k` is closed
abbrev pub with_closed : List Draft → ℕ → List Draft
with_closed [] k = []
with_closed (s ∷ ss) zero = record { core = s.core; is_closed = true; edges = s.edges } ∷ ss
with_closed (s ∷ ss) (suc k) = s ∷ with_closed ss k

-- the same, but where the core of `k` has grown: it is to be closed again then
abbrev pub closed_unless : Bool → List Draft → ℕ → List Draft
closed_unless true ss k = ss
closed_unless false ss k = with_closed ss k

-- `grew` says whether a core that was `a` and is `b` looks at more
abbrev pub TellsGrowth : Bool → Items → Items → Type 0
TellsGrowth grew a b =
    (grew ≡ true → Gains a b) × (grew ≡ false → (p d t : ℕ) → LooksIn b p d t → LooksIn a p d t)

-- a state with the core `a` that now has the core `b`, and that was closed or not and is so now: where its core looks at
-- more it is to be closed again, and else it is as it was
abbrev pub IsUnclosedIfGrown : Items → Items → Bool → Bool → Type 0
IsUnclosedIfGrown a b was is =
    (((p d t : ℕ) → LooksIn b p d t → LooksIn a p d t) × (is ≡ was)) ⊎ ((is ≡ false) × Gains a b)

-- ---- placing a goto

-- the state `k` has its core still, and is closed or not as it was
pub record Stays (old new : List Draft) (k : ℕ) : Type 0 where
  pub core : core_at new k ≡ core_at old k
  pub closed : closed_at new k ≡ closed_at old k

-- the state `k` took the goto in, which is equal to its core or weakly compatible with it: where its core grew it is to
-- be closed again
pub record Grows (old new : List Draft) (k : ℕ) (goto : Items) : Type 0 where
  pub length_is : length new ≡ length old
  pub items : SameItems (core_at old k) goto
  pub fits : (core_at new k ≡ core_at old k) ⊎ IsWeaklyCompatible (core_at old k) goto
  pub union : IsUnion (core_at old k) goto (core_at new k)
  pub fits_kept : (g : Grammar) → Fits g (core_at old k) → Fits g (core_at new k)
  pub closed : IsUnclosedIfGrown (core_at old k) (core_at new k) (closed_at old k) (closed_at new k)

-- the state `k` was made for the goto, which no state with its items could take in
pub record Makes (old new : List Draft) (k : ℕ) (goto : Items) : Type 0 where
  pub length_is : length new ≡ length old + 1
  pub last : k ≡ length old
  pub core : core_at new k ≡ goto
  pub closed : closed_at new k ≡ false
  pub clashes : (j : ℕ) → j < length old → SameItems (core_at old j) goto
      → Clash (core_at old j) goto

-- the goto on `x` of the state `from` was placed at the state `k`, to which the edge on `x` now leads
pub record PlacesOne (old : List Draft) (from : ℕ) (x : Symbol) (goto : Items) (k : ℕ)
    (new : List Draft) : Type 0 where
  pub taken : k < length new
  pub edges :
      (j : ℕ) (y : Symbol)
      → edge_from new j y ≡ if ((j == from) && same_symbol y x) then Some k else edge_from old j y
  pub others : (j : ℕ) → j ≢ k → Stays old new j
  pub how : Grows old new k goto ⊎ Makes old new k goto

-- the gotos of the state `from` were placed in turn
pub data PlacesAll (from : ℕ) : List Draft → List (Symbol × Items) → List Draft → Type 0 where
  none : {ss : List Draft} → PlacesAll from ss [] ss
  more :
      {ss ts us : List Draft} {x : Symbol} {a : Items} {gs : List (Symbol × Items)} (k : ℕ)
      → PlacesOne ss from x a k ts → PlacesAll from ts gs us → PlacesAll from ss ((x, a) ∷ gs) us
