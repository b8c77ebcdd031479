-- a graph that is made by merging, with a table of it, is what is built of the grammar; and why it has no table, the grammar has none
use Rattle.std.proofs.Common.{ℕ, length, Some, Result, Ok, Err}
use Rattle.std.specs.Prelude.{IfOk, IfErr}
use Rattle.std.specs.Result.{MatchResult}
use Rattle.lrspec.specs.grammars.Grammar.{Grammar, IsGrammar}
use Rattle.lrspec.specs.merging.Chains.{HasChainOf}
use Rattle.lrspec.specs.merging.Graph.{Graph}
use Rattle.lrspec.specs.merging.Merged.{IsMerged}
use Rattle.lrspec.specs.tables.Built.{IsBuilt}
use Rattle.lrspec.specs.tables.Conflicts.{AreEntriesOf}
use Rattle.lrspec.specs.tables.LrTables.{IsExactAnswer}
use Rattle.lrspec.specs.tables.Rows.{ReducesApart}
use Rattle.lrspec.specs.tables.Table.{Table, IsTableOf, lists_of}
use Rattle.lrspec.proofs.tables.ConflictsAreContested.{reductions_contested, shifts_contested, accept_uncontested}
use Rattle.lrspec.proofs.tables.ExactWithoutPrecedences.{table_answer}
use Rattle.lrgraphs.specs.declared.errors.BuildError.{BuildError}
use Rattle.lrcells.specs.Refusals.{IsTableRefusal}
use Rattle.lrtable.specs.Refusals.{IsBuildRefusal, IsExactError}
use Rattle.lrtable.proofs.BuildRefusals.{refused_by_table, exact_error}

built_table : (g : Grammar) (h : Graph) (b : Table) → IsGrammar g → IsMerged g h → IsTableOf g h b → ReducesApart g b → AreEntriesOf g (lists_of b) → IsBuilt g h b
built_table g h b shape merged table reduces entries = record {
  merged = merged;
  table = table;
  table_for = record { graph = h; graph_of = merged.graph; table_of = table };
  reduces = reduces;
  entries = entries;
  accepts = accept_uncontested g h shape merged.graph table.no_contest;
  reductions = reductions_contested g h merged.graph merged.shared;
  shifts = shifts_contested g h merged.graph;
}

-- the table that is answered
pub built_answer :
    {E : Type 0} (g : Grammar) (h : Graph) (r : Result Table E) → IsGrammar g → IsMerged g h
    → IfOk r (IsTableOf g h) → IfOk r (ReducesApart g) → IfOk r (λ b. AreEntriesOf g (lists_of b)) → IfOk r (IsBuilt g h)
built_answer g h (Ok b) shape merged table reduces entries = built_table g h b shape merged table reduces entries
built_answer g h (Err e) shape merged table reduces entries = tt

-- why there is none
pub refused_answer :
    {T : Type 0} (number : T → ℕ) (most : ℕ) (g : Grammar) (h : Graph) (r : Result Table (BuildError T)) → IsGrammar g → IsMerged g h
    → HasChainOf g (length h) → IfErr r (IsTableRefusal number most g h) → IfErr r (IsBuildRefusal number most g)
refused_answer number most g h (Ok b) shape merged chain refused = tt
refused_answer number most g h (Err e) shape merged chain refused = refused_by_table number most g h e shape merged.graph chain refused

-- the headline of either
pub exact_answer :
    {T : Type 0} (number : T → ℕ) (most : ℕ) (g : Grammar) (h : Graph) (r : Result Table (BuildError T)) → IsGrammar g → IsMerged g h
    → HasChainOf g (length h) → IfOk r (IsTableOf g h) → IfErr r (IsTableRefusal number most g h)
    → MatchResult r (λ b. IsExactAnswer g (Some b)) (IsExactError g)
exact_answer number most g h (Ok b) shape merged chain table refused = table_answer g h shape merged.graph merged.shared b table
exact_answer number most g h (Err e) shape merged chain table refused =
    exact_error number most g e (refused_by_table number most g h e shape merged.graph chain refused)
