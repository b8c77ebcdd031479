-- what is found at the candidates of cells
use Rattle.std.specs.Prelude.{◌≡◌, ℕ, List}
use Rattle.lrspec.specs.grammars.Grammar.{Grammar}
use Rattle.lrspec.specs.tables.Table.{Table}
use Rattle.lrtree.specs.StoredTrees.{tree_of}
use Rattle.lrconflicts.specs.Moves.{Move, IsTreeOfText, moves_of}
use Rattle.lrgrammar.specs.Symbols.{number_of}
use Rattle.lrlosses.specs.declared.losses.Loss as stored
use Rattle.lrlosses.specs.Losses.{IsLost, PartsAt, StopsAt}
use Rattle.lrlosses.specs.StoredLosses.{place_of}

-- a grammar, and the table for it
pub record Tabled : Type 0 where
  pub grammar : Grammar
  pub table : Table

-- a candidate of a cell of a table
pub record Candidate : Type 0 where
  -- the cell
  pub state : ℕ
  pub token : ℕ
  -- the move that it would be
  pub action : Move

-- the text is lost at a candidate: it has a tree, from whose moves the machine parts at the cell, where the candidate is the next
-- one; and it is rejected
pub record IsLostAt (b : Tabled) (x : Candidate) (text : List ℕ) (l : stored.Loss ℕ) : Type 0 where
  pub lost : IsLost b.grammar b.table text
  pub of_text : IsTreeOfText b.grammar text (tree_of number_of l.tree)
  -- where the machine parts from the moves of the tree
  pub parts : PartsAt b.grammar b.table text (moves_of (tree_of number_of l.tree)) (place_of number_of l.parting) x.action
  pub state : l.parting.state.0 ≡ x.state
  pub token : l.parting.token.0 ≡ x.token
  -- where it stops
  pub stops : StopsAt b.grammar b.table text (place_of number_of l.rejected)
