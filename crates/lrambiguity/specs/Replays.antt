-- what moves have put together: trees in a row
use Rattle.std.specs.Prelude.{◌≡◌, ℕ, List}
use Rattle.lrspec.specs.grammars.Grammar.{Symbol, Grammar}
use Rattle.lrspec.specs.grammars.Trees.{Forest, forest_leaves, IsForest}
use Rattle.lrconflicts.specs.Moves.{Move, forest_moves}

-- these moves read the text as the trees in a row, whose roots are the symbols
pub record Reads (g : Grammar) (ms : List Move) (text : List ℕ) (w : List Symbol) (ts : Forest)
    : Type 0 where
  pub roots : IsForest g w ts
  pub used : forest_leaves ts ≡ text
  pub made : forest_moves ts ≡ ms
