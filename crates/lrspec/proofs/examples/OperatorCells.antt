-- cells that precedences decide
use Rattle.std.proofs.Common.{◌≡◌, ℕ, Bool, List, ◌∷◌, None, Some, refl}
use Rattle.lrspec.specs.grammars.Grammar.{IsGrammar}
use Rattle.lrspec.specs.tables.Table as table
use Rattle.lrspec.specs.tables.Table.{cell_by}
use Rattle.lrspec.specs.examples.ExampleGrammars.{operators}
use Rattle.lrspec.proofs.examples.GrammarsByComputing.{grammar_from_test}

-- operators: `%nonassoc '<' %left '+' %left '*' %right '**'`
pub operators_grammar : IsGrammar operators
operators_grammar = grammar_from_test operators 1 refl refl refl refl refl refl

-- cells with the edge to `u` and the least reduction of `E: E '<' E` 0, `E: E '+' E` 1, `E: E '*' E` 2, `E: E '**' E` 3, `E: 'id'` 4
module _ (ps : List ℕ) (u : ℕ) (b : Bool) where
  -- behind `E + E` the token '*', which is of a higher level, is shifted
  higher_shifts : cell_by operators 2 (1 ∷ ps) (Some u) b ≡ table.Action.Shift u
  higher_shifts = refl

  -- behind `E * E` the token '+', which is of a lower level, reduces
  lower_reduces : cell_by operators 1 (2 ∷ ps) (Some u) b ≡ table.Action.Reduce 2
  lower_reduces = refl

  -- on one level the left kind reduces
  left_reduces : cell_by operators 1 (1 ∷ ps) (Some u) b ≡ table.Action.Reduce 1
  left_reduces = refl

  -- the right kind shifts
  right_shifts : cell_by operators 3 (3 ∷ ps) (Some u) b ≡ table.Action.Shift u
  right_shifts = refl

  -- and nonassoc is an error
  nonassoc_is_error : cell_by operators 0 (0 ∷ ps) (Some u) b ≡ table.Action.Error
  nonassoc_is_error = refl

  -- without a precedence of the token or of the production the edge wins
  edge_wins : (cell_by operators 4 (1 ∷ ps) (Some u) b ≡ table.Action.Shift u) × (cell_by operators 1 (4 ∷ ps) (Some u) b ≡ table.Action.Shift u)
  edge_wins = (refl, refl)

  -- without an edge the least reduction is taken, whatever the precedences
  least_wins : (t : ℕ) → cell_by operators t (1 ∷ ps) None b ≡ table.Action.Reduce 1
  least_wins t = refl
