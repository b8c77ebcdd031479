-- with what symbols begin, and how far a way may go on
use Rattle.std.specs.Prelude.{◌≡◌, ℕ, Bool, IsTrue, List, Option, length}
use Rattle.lrspec.specs.grammars.Grammar.{Symbol, Grammar, token_count}
use Rattle.lrspec.specs.grammars.First.{AllNullable, Begins}
use Rattle.lrbits.specs.Bits.{bit}
use Rattle.lrdecided.specs.Agreements.{Spends}
use Rattle.lrdecided.specs.Nodes.{Side, Node}

-- no text of the symbols is empty, and of the bits, one a token, those of the tokens with which they begin are set
pub record BeginsWithin (g : Grammar) (y : List Symbol) (v : List Bool) : Type 0 where
  pub tokens : length v ≡ token_count g
  pub not_empty : ¬ (AllNullable g y)
  pub begins : (t : ℕ) → Begins g y t → IsTrue (bit v t)

-- the texts agree in a token more
abbrev pub HasMore : Option ℕ → Type 0
HasMore left = (l : Option ℕ) × Spends left l

-- the node of these ways
abbrev pub node_with : Side → Side → List ℕ → Option ℕ → Option ℕ → Node
node_with x y states next left = record {
  one = x;
  other = y;
  states = states;
  next = next;
  left = left;
}
