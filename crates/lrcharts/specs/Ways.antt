-- ways on from where a machine is, and trees of its text
use Rattle.std.specs.Prelude.{ℕ, List}
use Rattle.lrgrammar.specs.declared.idx.TIdx.{TIdx}
use Rattle.lrspec.specs.grammars.Grammar.{Symbol, Grammar}
use Rattle.lrspec.specs.grammars.Trees.{Tree}
use Rattle.lrspec.specs.merging.Graph.{Graph}
use Rattle.lrspec.specs.tables.Table.{Table}
use Rattle.lrspec.proofs.tables.MachineStacks.{IsStack}
use Rattle.lrtable.specs.WorkingMachine.{stack_of}
use Rattle.lrconflicts.specs.Moves.{Move, moves_of, IsTreeOfText}
use Rattle.lrlosses.specs.Losses.{GoesAlong}
use Rattle.lrgrammar.specs.Symbols.{number_of}
use Rattle.lrambiguity.specs.Finishing.{Finishes}
use Rattle.lrcharts.specs.declared.machine.Machine.{Machine}
use Rattle.lrcharts.specs.Machines.{left_of}

-- a text that is read along a graph of a grammar
pub record Reading : Type 0 where
  pub grammar : Grammar
  pub graph : Graph
  pub text : List (TIdx ℕ)

-- of this text along this graph
abbrev pub reading : Grammar → Graph → List (TIdx ℕ) → Reading
reading g h text = record { grammar = g; graph = h; text = text }

-- from the symbols on the stack of the machine these moves read what is left of the text
pub record GoesOnBy (x : Reading) (m : Machine) (ms : List Move) : Type 0 where
  pub symbols : List Symbol
  pub is_stack : IsStack x.graph symbols (stack_of number_of m.stack.items)
  pub finishes : Finishes x.grammar symbols ms (left_of m x.text)

-- no moves do
abbrev pub IsDeadEnd : Reading → Machine → Type 0
IsDeadEnd x m = (ms : List Move) → ¬ (GoesOnBy x m ms)

-- behind so many steps on the text the machine can put together no tree of it any more: the moves of none begin with these steps
abbrev pub HasNoTreeLeft : Grammar → Table → List ℕ → ℕ → Type 0
HasNoTreeLeft g b text n =
    (t : Tree) → IsTreeOfText g text t → ¬ (GoesAlong g b text (moves_of t) n)
