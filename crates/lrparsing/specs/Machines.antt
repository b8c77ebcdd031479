-- the machine of a grammar's table
use Rattle.std.specs.Prelude.{ℕ, List, map}
use Rattle.lrgrammar.specs.declared.idx.TIdx.{TIdx}
use Rattle.lrspec.specs.grammars.Grammar.{Grammar}
use Rattle.lrspec.specs.tables.Table.{Table}
use Rattle.lrspec.specs.tables.Machine.{Answer, run}

-- a grammar, a table, and how many steps the machine makes at the most
pub record Tabled : Type 0 where
  pub grammar : Grammar
  pub table : Table
  pub steps : ℕ

-- how the machine comes out on a text
abbrev pub run_by : Tabled → List ℕ → Answer
run_by m text = run m.grammar m.table m.steps text

-- tokens by their numbers
abbrev pub numbers : List (TIdx ℕ) → List ℕ
numbers ts = map (λ t. t.0) ts
