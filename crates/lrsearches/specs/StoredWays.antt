-- what all searches over a graph share
use Rattle.std.specs.Prelude.{◌≡◌, ℕ, ◌<◌, List, map, Contains, Some, length, slice_index_or, ◌↔◌, ◌⊎◌}
use Rattle.std.specs.declared.vec.Vec.{Vec}
use Rattle.std.specs.declared.alloc.Global.{Global}
use Rattle.lrspec.specs.grammars.Grammar as math
use Rattle.lrspec.specs.grammars.Grammar.{Grammar}
use Rattle.lrspec.specs.grammars.ItemSets.{AreUpwards}
use Rattle.lrspec.specs.merging.Graph.{Graph, edge, core_of}
use Rattle.lrgrammar.specs.declared.idx.StIdx.{StIdx}
use Rattle.lrgrammar.specs.declared.idx.Symbol.{Symbol}
use Rattle.lrgrammar.specs.Symbols.{symbol_of}
use Rattle.lrgrammar.specs.Firsts.{AreFirstsOf}
use Rattle.lritems.specs.Fingerprints.{fingerprint_of}
use Rattle.lrsearches.specs.StoredUses.{AreUses}
use Rattle.lrsearches.specs.declared.ways.Ways.{Ways}

-- each edge of the state `s` leads to a state of the graph
abbrev pub LeadsBelow : Graph → ℕ → Type 0
LeadsBelow h s = (x : math.Symbol) (u : ℕ) → edge h s x ≡ Some u → u < length h

-- edges that lead into a state: the symbol of each, and from where it leads
abbrev pub row_of : {T : Type 0} → (T → ℕ) → List (Symbol T × StIdx T) → List (math.Symbol × ℕ)
row_of number es = map (λ e. (symbol_of number e.0, number e.1.0)) es

-- these are the edges that lead into the state `u`
abbrev pub IsRowOf : Graph → ℕ → List (math.Symbol × ℕ) → Type 0
IsRowOf h u es = (v : math.Symbol) (s : ℕ) → Contains es (v, s) ↔ (edge h s v ≡ Some u)

-- for each state these are the edges that lead into it
pub record AreIncoming {T : Type 0} (number : T → ℕ) (h : Graph)
    (lists : List (Vec (Symbol T × StIdx T) Global)) : Type 0 where
  pub states : length lists ≡ length h
  pub rows :
      (u : ℕ) (d : Vec (Symbol T × StIdx T) Global) → u < length h
      → IsRowOf h u (row_of number (slice_index_or lists u d).items)

-- to the edges that lead into each state those of the state `s` are added
pub record AddsEdgesOf {T : Type 0} (number : T → ℕ) (h : Graph) (s : ℕ)
    (old new : List (Vec (Symbol T × StIdx T) Global)) : Type 0 where
  pub states : length new ≡ length old
  pub edges :
      (u : ℕ) (d : Vec (Symbol T × StIdx T) Global) (v : math.Symbol) (r : ℕ) → u < length h
      → Contains (row_of number (slice_index_or new u d).items) (v, r)
      ↔ (Contains (row_of number (slice_index_or old u d).items) (v, r)
      ⊎ ((r ≡ s) × (edge h s v ≡ Some u)))

-- for each state this is the fingerprint of its core, whose items come upwards
pub record AreFingerprints (h : Graph) (fs : List ℕ) : Type 0 where
  pub states : length fs ≡ length h
  pub cores : (s d : ℕ) → s < length h → slice_index_or fs s d ≡ fingerprint_of (core_of h s)
  pub upwards : (s : ℕ) → s < length h → AreUpwards (core_of h s)

-- what all searches share is that of the grammar and its graph
pub record AreWaysOf {T : Type 0} (number : T → ℕ) (g : Grammar) (h : Graph) (ways : Ways T)
    : Type 0 where
  pub firsts : AreFirstsOf g ways.firsts
  pub uses : AreUses number g ways.uses.items
  pub incoming : AreIncoming number h ways.incoming.items
  pub distances : length ways.distances.items ≡ length h
  pub fingerprints : AreFingerprints h ways.fingerprints.items
