-- what a cell of a table doesn't take, and when no sentence is lost by that
use Rattle.std.specs.Prelude.{◌≡◌, ◌≢◌, ℕ, ◌<◌, List, ◌∷◌, length}
use Rattle.lrspec.specs.grammars.Grammar.{Symbol, Grammar}
use Rattle.lrspec.specs.merging.Graph.{Graph, Leads}
use Rattle.lrspec.specs.tables.Table as table
use Rattle.lrspec.specs.tables.Table.{Table, IsContender, action_of}
use Rattle.lrspec.specs.tables.Machine.{next_token}
use Rattle.lrconflicts.specs.Moves.{Move, candidate_of}
use Rattle.lrambiguity.specs.Finishing.{Finishes}
use Rattle.lrlosses.specs.Losses.{Takes}

-- the rest of the text can be read from the stack
abbrev pub GoesOn : Grammar → List Symbol → List ℕ → Type 0
GoesOn g v text = (ms : List Move) × Finishes g v ms text

-- the stacks that count: those that lead to the state by edges of the graph. The machine comes to no others, and not to all
-- of these
abbrev pub Along : Graph → List Symbol → ℕ → Type 0
Along h v s = Leads h v s

-- the move contends for the cell of the state and the token, which doesn't take it
pub record IsLoser (g : Grammar) (h : Graph) (b : Table) (s t : ℕ) (m : Move) : Type 0 where
  pub contends : IsContender g h s t (candidate_of m)
  pub refused : ¬ (Takes (action_of b s t) m)

-- a way on from the stack that begins with what the cell takes
pub record GoesWith (g : Grammar) (b : Table) (s t : ℕ) (v : List Symbol) (text : List ℕ) : Type 0 where
  pub move : Move
  pub others : List Move
  pub taken : Takes (action_of b s t) move
  pub finishes : Finishes g v (move ∷ others) text

-- the move is kept: wherever it is a way on, from a stack that leads to the state and with the token next, there is one with
-- what the cell takes
abbrev pub IsKept : Grammar → Graph → Table → ℕ → ℕ → Move → Type 0
IsKept g h b s t m =
    (v : List Symbol) (text : List ℕ) (others : List Move) → Along h v s → next_token g text ≡ t
    → Finishes g v (m ∷ others) text → GoesWith g b s t v text

-- what no cell takes is kept
abbrev pub AreKept : Grammar → Graph → Table → Type 0
AreKept g h b =
    (s t : ℕ) (m : Move) → s < length h → IsLoser g h b s t m → IsKept g h b s t m

-- and so but for cells that are errors
abbrev pub AreKeptButAtErrors : Grammar → Graph → Table → Type 0
AreKeptButAtErrors g h b =
    (s t : ℕ) (m : Move) → s < length h → IsLoser g h b s t m
    → action_of b s t ≢ table.Action.Error → IsKept g h b s t m
