-- the places that a search has come to, each with the step that led there
use Rattle.std.specs.Prelude.{◌≡◌, ℕ, ◌+◌, ◌<◌, ◌≤◌, List, map, [], ◌∷◌, ◌++◌, Contains, Option, None, Some, IfSome, length, slice_get, ◌⊎◌}
use Rattle.std.specs.Option.{option_map}
use Rattle.lrspec.specs.grammars.Grammar.{Symbol, Grammar}
use Rattle.lrspec.specs.merging.Graph.{Graph}
use Rattle.lrgrammar.specs.Symbols.{symbol_of}
use Rattle.std.specs.BTreeSet.{BTreeSet}
use Rattle.std.specs.declared.cmp.Reverse.{Reverse}
use Rattle.lrsearches.specs.declared.places.Place as kept
use Rattle.lrsearches.specs.declared.places.Step as made
use Rattle.lrsearches.specs.declared.search.Turn.{Turn}
use Rattle.lrsearches.specs.declared.search.Visit as stored
use Rattle.lrsearches.specs.Searches.{Need, Place, Steps, AreLooking}
use Rattle.lrsearches.specs.StoredPlaces.{place_of}

-- a place that was come to: from which visit, if not at the beginning, and over which symbol
pub record Visit : Type 0 where
  pub place : Place
  pub from : Option ℕ
  pub symbol : Option Symbol

-- a stored visit
abbrev pub visit_of : {T : Type 0} → (T → ℕ) → stored.Visit T → Visit
visit_of number v =
    record {
      place = place_of number v.place;
      from = v.from;
      symbol = option_map (symbol_of number) v.symbol;
    }

-- visits
abbrev pub visits_of : {T : Type 0} → (T → ℕ) → List (stored.Visit T) → List Visit
visits_of number vs = map (visit_of number) vs

-- a search began at the place of the visit, or a step from an earlier visit led there
abbrev pub HasOrigin : Grammar → Graph → ℕ → List Place → List Visit → ℕ → Visit → Option ℕ → Type 0
HasOrigin g h t places vs i v None = Contains places v.place
HasOrigin g h t places vs i v (Some j) =
    (j < i) × (u : Visit) × (slice_get vs j ≡ Some u) × Steps g h t u.place v.symbol v.place

-- each visit has an origin, and what is needed there looks at the token
pub record AreVisits (g : Grammar) (h : Graph) (t : ℕ) (places : List Place) (vs : List Visit)
    : Type 0 where
  pub origins :
      (i : ℕ) (v : Visit) → slice_get vs i ≡ Some v → HasOrigin g h t places vs i v v.from
  pub looking : (i : ℕ) (v : Visit) → slice_get vs i ≡ Some v → AreLooking h t v.place
  pub below : (i : ℕ) (v : Visit) → slice_get vs i ≡ Some v → v.place.state < length h

-- the place was come to
abbrev pub IsVisited : List Visit → Place → Type 0
IsVisited vs a = (i : ℕ) × (v : Visit) × (slice_get vs i ≡ Some v) × (v.place ≡ a)

-- so is the place of this state and these needs
abbrev pub WasSeen : List Visit → ℕ → Need → Need → Type 0
WasSeen vs s x y = IsVisited vs (record { state = s; first = x; second = y })

-- a visit more, where its place was not come to: it waits, and nothing else changes
pub record Adds (vs : List Visit) (ws : List ℕ) (v : Visit) (us : List Visit) (zs : List ℕ)
    : Type 0 where
  pub kept : (i : ℕ) (u : Visit) → slice_get vs i ≡ Some u → slice_get us i ≡ Some u
  pub here : IsVisited us v.place
  pub only :
      (i : ℕ) (u : Visit) → slice_get us i ≡ Some u
      → (slice_get vs i ≡ Some u) ⊎ ((u ≡ v) × (length vs ≤ i) × Contains zs i)
  pub waits : (i : ℕ) → Contains ws i → Contains zs i
  pub waiting : (i : ℕ) → Contains zs i → Contains ws i ⊎ (i < length us)
  pub grown : length us + length ws ≡ length vs + length zs
  pub no_less : length vs ≤ length us

-- visits more, one after the other
pub data AddsAll : List Visit → List ℕ → List Visit → List Visit → List ℕ → Type 0 where
  none : (vs : List Visit) (ws : List ℕ) → AddsAll vs ws [] vs ws
  more :
      {vs us xs : List Visit} {ws zs ys : List ℕ} {ms : List Visit} {v : Visit}
      → AddsAll vs ws ms us zs → Adds us zs v xs ys
      → AddsAll vs ws (ms ++ v ∷ []) xs ys

-- a visit at which the search begins
abbrev pub begin_of : {T : Type 0} → (T → ℕ) → kept.Place T → Visit
begin_of number a = record { place = place_of number a; from = None; symbol = None }

-- the visit to which a step leads
abbrev pub next_of : {T : Type 0} → (T → ℕ) → ℕ → made.Step T → Visit
next_of number from e =
    record {
      place = place_of number e.place;
      from = Some from;
      symbol = option_map (symbol_of number) e.symbol;
    }

-- the visits that wait for their turn
abbrev pub turns_of : List (Reverse Turn) → List ℕ
turns_of rs = map (λ r. r.0.visit) rs

-- the places of the set were come to
abbrev pub AreKnown : {T : Type 0} → (T → ℕ) → BTreeSet (kept.Place T) → List Visit → Type 0
AreKnown {T} number seen vs =
    (q : kept.Place T) → Contains seen.keys q → IsVisited vs (place_of number q)

-- each visit comes from an earlier one, if it comes from one
abbrev pub AreEarlier : List Visit → Type 0
AreEarlier vs = (i : ℕ) (v : Visit) → slice_get vs i ≡ Some v → IfSome v.from (λ j. j < i)

-- going from the visit `goal` to those from which it comes, one comes to another, and on the way
-- there to these symbols
pub data IsWalk (vs : List Visit) (goal : ℕ) : ℕ → List Symbol → Type 0 where
  begin : IsWalk vs goal goal []
  stay :
      {i j : ℕ} {w : List Symbol} (v : Visit)
      → IsWalk vs goal i w → slice_get vs i ≡ Some v → v.from ≡ Some j → v.symbol ≡ None
      → IsWalk vs goal j w
  back :
      {i j : ℕ} {w : List Symbol} (v : Visit) (x : Symbol)
      → IsWalk vs goal i w → slice_get vs i ≡ Some v → v.from ≡ Some j → v.symbol ≡ Some x
      → IsWalk vs goal j (w ++ x ∷ [])

-- the list has the symbols on the way to the place at which the search began
abbrev pub IsListOf : List Visit → ℕ → List Symbol → Type 0
IsListOf vs goal w =
    (k : ℕ) × (v : Visit) × (slice_get vs k ≡ Some v) × (v.from ≡ None) × IsWalk vs goal k w
