-- charts: between which places of a row symbols are derived
use Rattle.std.specs.Prelude.{◌≡◌, ◌≢◌, ℕ, ◌+◌, ◌-◌, ◌*◌, ◌<◌, ◌≤◌, Bool, List, [], ◌∷◌, Some, length, map, slice_get, slice_index_or, IsTrue}
use Rattle.lrbits.specs.Bits.{bit}
use Rattle.lrgrammar.specs.Symbols.{symbol_of, number_of}
use Rattle.lrgrammar.specs.declared.idx.Symbol as code
use Rattle.lrspec.specs.grammars.Grammar.{Symbol, Rule, Token, Grammar, IsGrammar, body_of, IsProductionOf}
use Rattle.lrspec.specs.merging.Graph.{Graph, edge}
use Rattle.lrcharts.specs.declared.charts.Chart.{Chart}

-- symbols by their numbers
abbrev pub symbols_of : List (code.Symbol ℕ) → List Symbol
symbols_of xs = map (symbol_of number_of) xs

-- the bits of the spans of a symbol
abbrev pub row_of : Chart → Symbol → List Bool
row_of c (Rule r) = slice_index_or c.rules.items r []
row_of c (Token t) = slice_index_or c.tokens.items t []

-- the chart says that the symbol is derived between these places of its row
pub record HasSpan (c : Chart) (x : Symbol) (from to : ℕ) : Type 0 where
  pub first : from < c.places
  pub last : to < c.places
  pub order : from ≤ to
  pub is_set : IsTrue (bit (row_of c x) (from * 128 + to))

-- the symbols lie between the places, one behind another
pub data Laid (c : Chart) : List Symbol → ℕ → ℕ → Type 0 where
  -- none do where both are one
  none : {i : ℕ} → i < c.places → Laid c [] i i
  -- the first one up to where the others begin
  more :
      {x : Symbol} {w : List Symbol} {i k j : ℕ} → HasSpan c x i k → Laid c w k j
      → Laid c (x ∷ w) i j

-- the rule of the production is derived wherever its body lies, unless that ends before the top of the stack: the machine reduces
-- what is on top alone
abbrev pub IsClosedBy : Grammar → Chart → ℕ → Type 0
IsClosedBy g c p =
    (r i j : ℕ) → IsProductionOf g p r → c.top ≤ j → Laid c (body_of g p) i j
    → HasSpan c (Rule r) i j

-- the chart is closed: that holds for each production
abbrev pub IsClosed : Grammar → Chart → Type 0
IsClosed g c = (p : ℕ) → IsClosedBy g c p

-- each symbol on which an edge leads from the state `s` to the state `u` is a leaf at the place
abbrev pub HasEdges : Graph → Chart → ℕ → ℕ → ℕ → Type 0
HasEdges h c s u i = (x : Symbol) → edge h s x ≡ Some u → HasSpan c x i (i + 1)

-- so from each of the states to the next one, the first of which is at the place 0
abbrev pub HasStates : Graph → Chart → List ℕ → Type 0
HasStates h c ss =
    (i s u : ℕ) → slice_get ss i ≡ Some s → slice_get ss (i + 1) ≡ Some u → HasEdges h c s u i

-- the tokens are leaves from the place on
abbrev pub HasTokens : Chart → ℕ → List ℕ → Type 0
HasTokens c i text = Laid c (map Token text) i (i + length text)

-- the chart has the leaves of a row, which lie between these states and are then these tokens, and lacks the start rule from its
-- beginning to its end
pub record LacksWhole (g : Grammar) (h : Graph) (c : Chart) (states text : List ℕ) : Type 0 where
  pub some : length states ≢ 0
  pub within : length states ≤ c.places
  pub top : c.top ≤ length states - 1
  pub stack : HasStates h c states
  pub tokens : HasTokens c (length states - 1) text
  pub lacks :
      (shape : IsGrammar g)
      → ¬ (HasSpan c (Rule shape.start.0) 0 (length states - 1 + length text))

-- what is set stays set
abbrev pub KeepsBits : List Bool → List Bool → Type 0
KeepsBits v w = (i : ℕ) → IsTrue (bit v i) → IsTrue (bit w i)
