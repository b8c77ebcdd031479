-- nodes, as the code stores them
use Rattle.std.specs.Prelude.{ℕ, List, Option, map}
use Rattle.std.specs.Option.{option_map}
use Rattle.lrspec.specs.grammars.Grammar as math
use Rattle.lrgrammar.specs.declared.idx.StIdx.{StIdx}
use Rattle.lrgrammar.specs.declared.idx.TIdx.{TIdx}
use Rattle.lrgrammar.specs.declared.idx.Symbol.{Symbol}
use Rattle.lrgrammar.specs.Symbols.{symbol_of, number_of}
use Rattle.lrdecided.specs.declared.nodes.Side as code
use Rattle.lrdecided.specs.declared.nodes.Node as kept
use Rattle.lrdecided.specs.Nodes.{Side, Node}

-- symbols by their numbers
abbrev pub symbols_of : List (Symbol ℕ) → List math.Symbol
symbols_of xs = map (symbol_of number_of) xs

-- states by their numbers
abbrev pub states_of : List (StIdx ℕ) → List ℕ
states_of ss = map (λ s. s.0) ss

-- a token that may be known, by its number
abbrev pub next_of : Option (TIdx ℕ) → Option ℕ
next_of o = option_map (λ t. t.0) o

-- one of the ways
abbrev pub side_of : code.Side → Side
side_of x = record {
  production = x.production.0;
  dot = x.dot.0;
  symbols = symbols_of x.symbols.items;
  is_cut = x.is_cut;
}

-- sides
abbrev pub sides_of : List code.Side → List Side
sides_of xs = map side_of xs

-- both ways
abbrev pub node_of : kept.Node → Node
node_of a = record {
  one = side_of a.one;
  other = side_of a.other;
  states = states_of a.states.items;
  next = next_of a.next;
  left = a.left;
}

-- nodes
abbrev pub nodes_of : List kept.Node → List Node
nodes_of ns = map node_of ns
