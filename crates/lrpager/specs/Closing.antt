-- how a construction begins, and its turns: a state is closed, and its gotos are at hand
use Rattle.std.specs.Prelude.{◌≡◌, ◌≢◌, ℕ, ◌<◌, false, true, List, [], ◌∷◌, None, length, slice_get}
use Rattle.lrspec.specs.grammars.Grammar.{Symbol, Grammar}
use Rattle.lrspec.specs.grammars.ItemSets.{Items, Fits, IsClosure}
use Rattle.lrspec.specs.grammars.StartState.{IsStartCore}
use Rattle.lrplacing.specs.Construction.{Draft, core_at, closed_at, edge_from, PlacesAll}
use Rattle.lritems.specs.Gotos.{AreGotosOf, ArePlacesFor}
use Rattle.lrclosing.specs.Closer.{IsCloserOf}
use Rattle.lrpager.specs.declared.pager.Tools.{Tools}

-- the state `i`, which was to be closed, was closed and has no edges yet; all else stays
pub record Closes (old : List Draft) (i : ℕ) (new : List Draft) : Type 0 where
  pub length_is : length new ≡ length old
  pub below : i < length old
  pub was : closed_at old i ≡ false
  pub others : (j : ℕ) → j ≢ i → slice_get new j ≡ slice_get old j
  pub core : core_at new i ≡ core_at old i
  pub edges : (y : Symbol) → edge_from new i y ≡ None
  pub closed : closed_at new i ≡ true

-- the state `i` was closed, and these are the gotos of what its core closes to
pub record ClosesTo (g : Grammar) (old : List Draft) (i : ℕ) (new : List Draft)
    (gs : List (Symbol × Items)) : Type 0 where
  pub closed : Items
  pub closure : IsClosure g (core_at old i) closed
  pub fits : Fits g closed
  pub closes : Closes old i new
  pub gotos : AreGotosOf g closed gs

-- a turn: the state `i` was closed, and the gotos of what its core closes to were placed
pub record IsTurn (g : Grammar) (old : List Draft) (i : ℕ) (new : List Draft) : Type 0 where
  pub mid : List Draft
  pub gotos : List (Symbol × Items)
  pub closes : ClosesTo g old i mid gotos
  pub places : PlacesAll i mid gotos new

-- the start state alone, which is to be closed
abbrev pub start_states : Items → List Draft
start_states core = record { core = core; is_closed = false; edges = [] } ∷ []

-- there is the start state alone
pub record StartsWith (g : Grammar) (ss : List Draft) : Type 0 where
  pub core : Items
  pub states : ss ≡ start_states core
  pub is_start : IsStartCore g core
  pub fits : Fits g core

-- what all closings use is for the grammar
pub record AreToolsFor (g : Grammar) (tools : Tools) : Type 0 where
  pub closer : IsCloserOf g tools.closer
  pub places : ArePlacesFor g tools.places
