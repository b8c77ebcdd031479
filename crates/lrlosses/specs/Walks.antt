-- the machine on its way through a text
use Rattle.std.specs.Prelude.{ℕ, ◌≤◌, List, length, map, reverse, drop}
use Rattle.lrgrammar.specs.declared.idx.StIdx.{StIdx}
use Rattle.lrgrammar.specs.declared.idx.TIdx.{TIdx}
use Rattle.lrgrammar.specs.declared.idx.PIdx.{PIdx}
use Rattle.lrspec.specs.grammars.Grammar.{Grammar}
use Rattle.lrspec.specs.tables.Table as table
use Rattle.lrspec.specs.tables.Table.{Table, Action, action_of}
use Rattle.lrspec.specs.tables.Machine.{Config, top, next_token}
use Rattle.lrtable.specs.RunAnswers.{text_of}
use Rattle.lrtable.specs.Reached.{IsReachedIn}
use Rattle.lrlosses.specs.declared.walks.Walk.{Walk}

-- the stack, which is kept with its top last
abbrev pub stack_of : {T : Type 0} → (T → ℕ) → List (StIdx T) → List ℕ
stack_of number states = reverse (map (λ s. number s.0) states)

-- what is left of the text
abbrev pub left_of : {T : Type 0} → (T → ℕ) → Walk T → List (TIdx T) → List ℕ
left_of number w text = drop w.used (text_of number text)

-- the machine, with the reductions that it has made
abbrev pub config_of : {T : Type 0} → (T → ℕ) → Walk T → List (TIdx T) → List (PIdx T) → Config
config_of number w text rs = record {
  stack = stack_of number w.stack.items;
  left = left_of number w text;
  reductions = map (λ p. number p.0) rs;
}

-- the cell at which it looks
abbrev pub cell_of : {T : Type 0} → (T → ℕ) → Grammar → Table → Walk T → List (TIdx T) → Action
cell_of number g b w text =
    action_of b (top (stack_of number w.stack.items)) (next_token g (left_of number w text))

-- so many steps, each of which goes on, lead to where it is
pub record HasCome {T : Type 0} (number : T → ℕ) (g : Grammar) (b : Table) (text : List (TIdx T))
    (n : ℕ) (w : Walk T) : Type 0 where
  pub reductions : List (PIdx T)
  pub reached : IsReachedIn g b (text_of number text) n (config_of number w text reductions)
  pub within : w.used ≤ length text

-- the cell says to go on
abbrev pub GoesOn : Action → Type 0
GoesOn (table.Action.Shift s) = Unit {0}
GoesOn (table.Action.Reduce p) = Unit {0}
GoesOn table.Action.Accept = ⊥
GoesOn table.Action.Error = ⊥
