-- the machine of a table on its way through a text
use Rattle.std.specs.Prelude.{ℕ, ◌<◌, List, length, map, drop}
use Rattle.lrgrammar.specs.declared.idx.TIdx.{TIdx}
use Rattle.lrgrammar.specs.declared.idx.PIdx.{PIdx}
use Rattle.lrspec.specs.grammars.Grammar.{Grammar}
use Rattle.lrspec.specs.tables.Table.{Table, Action, action_of}
use Rattle.lrspec.specs.tables.Machine.{Config, top, next_token}
use Rattle.lrtable.specs.RunAnswers.{text_of}
use Rattle.lrtable.specs.WorkingMachine.{stack_of}
use Rattle.lrtable.specs.Reached.{IsReachedIn}
use Rattle.lrgrammar.specs.Symbols.{number_of}
use Rattle.lrcharts.specs.declared.machine.Machine.{Machine}

-- what is left of the text
abbrev pub left_of : Machine → List (TIdx ℕ) → List ℕ
left_of m text = drop m.used (text_of number_of text)

-- the machine, with the reductions that it has made
abbrev pub config_of : Machine → List (TIdx ℕ) → List (PIdx ℕ) → Config
config_of m text rs = record {
  stack = stack_of number_of m.stack.items;
  left = left_of m text;
  reductions = map (λ p. number_of p.0) rs;
}

-- the cell at which it looks
abbrev pub cell_of : Grammar → Table → Machine → List (TIdx ℕ) → Action
cell_of g b m text =
    action_of b (top (stack_of number_of m.stack.items)) (next_token g (left_of m text))

-- so many steps, each of which goes on, lead to where it is; a state is on its stack
pub record HasCome (g : Grammar) (b : Table) (text : List (TIdx ℕ)) (n : ℕ)
    (m : Machine) : Type 0 where
  pub reductions : List (PIdx ℕ)
  pub reached : IsReachedIn g b (text_of number_of text) n (config_of m text reductions)
  pub deep : 0 < length m.stack.items
