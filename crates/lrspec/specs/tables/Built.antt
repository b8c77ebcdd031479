-- a graph that is made by merging, with its table
use Rattle.std.specs.Prelude.{ℕ}
use Rattle.lrspec.specs.grammars.Grammar.{Grammar}
use Rattle.lrspec.specs.merging.Graph.{Graph}
use Rattle.lrspec.specs.merging.Merged.{IsMerged}
use Rattle.lrspec.specs.tables.Table.{Table, IsTableOf, IsTableFor, lists_of}
use Rattle.lrspec.specs.tables.Rows.{ReducesApart}
use Rattle.lrspec.specs.tables.Conflicts.{AreEntriesOf, AreReductionsContested, AreShiftsContested, IsAcceptContested}

-- the graph is the grammar's, made by merging, and the table is the graph's
pub record IsBuilt (g : Grammar) (h : Graph) (b : Table) : Type 0 where
  pub merged : IsMerged g h
  pub table : IsTableOf g h b
  pub table_for : IsTableFor g b
  pub reduces : ReducesApart g b
  pub entries : AreEntriesOf g (lists_of b)
  pub accepts : (p : ℕ) → ¬ (IsAcceptContested g p)
  pub reductions : AreReductionsContested g h
  pub shifts : AreShiftsContested g h
