-- a stored state graph as plain data
use Rattle.std.specs.Prelude.{◌≡◌, ℕ, ◌<◌, List, map, length, sum_by}
use Rattle.std.specs.List.{All}
use Rattle.lrgrammar.specs.declared.idx.Symbol.{Symbol}
use Rattle.lrgrammar.specs.Symbols.{symbol_of}
use Rattle.lritems.specs.ItemsOf.{set_of}
use Rattle.lrgraphs.specs.declared.stategraph.State as stored
use Rattle.lrspec.specs.grammars.Grammar as math
use Rattle.lrspec.specs.merging.Graph.{State, Graph, IsInOrder}

-- the edges of a map: the number of each symbol, and the number of the state to which it leads
abbrev pub edges_of :
    {T X : Type 0} → (T → ℕ) → (X → ℕ) → List (Symbol T × X) → List (math.Symbol × ℕ)
edges_of number state es = map (λ e. (symbol_of number e.0, state e.1)) es

-- a stored state by numbers
abbrev pub state_of : {T : Type 0} → (T → ℕ) → stored.State T → State
state_of number s = record {
  core = set_of number s.core;
  closed = set_of number s.closed;
  edges = edges_of number (λ u. number u.0) s.edges.entries;
}

-- stored states by numbers
abbrev pub graph_of : {T : Type 0} → (T → ℕ) → List (stored.State T) → Graph
graph_of number ss = map (state_of number) ss

-- what each stored graph keeps: there is a state, indices number the states, the edges are counted, and each state is in
-- order
pub record IsStoredGraph (most : ℕ) (h : Graph) (edges : ℕ) : Type 0 where
  pub some : 0 < length h
  pub states : length h < most
  pub counted : edges ≡ sum_by (λ s. length s.edges) h
  pub order : All IsInOrder h
