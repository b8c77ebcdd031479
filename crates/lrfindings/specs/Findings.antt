-- what is promised of findings
use Rattle.std.specs.Prelude.{◌≡◌, ℕ, true, [], length, map, IfNone, IfSome, IsTrue}
use Rattle.std.specs.List.Sorted.{IsPermutation}
use Rattle.lrspec.specs.grammars.Grammar.{Grammar}
use Rattle.lrspec.specs.merging.Graph.{Graph, IsGraphOf}
use Rattle.lrspec.specs.tables.Conflicts.{AreReductionsContested}
use Rattle.lrspec.specs.tables.LrTables.{HasNoPrecedences, ListsNothing}
use Rattle.lrspec.specs.tables.Recognition.{IsUnambiguous}
use Rattle.lrspec.specs.tables.Table.{Table, IsTableOf, lists_of}
use Rattle.lryacc.specs.declared.numbering.FileGrammar.{FileGrammar}
use Rattle.lrfindings.specs.ReachedStates.{AreLeft, AreNeverReduced, AreResolved}
use Rattle.lrfindings.specs.StoredCells.{resolution}
use Rattle.lrfindings.specs.FileGrammars.{IsGrammarOfFile}
use Rattle.lrfindings.specs.declared.findings.Findings.{Findings}
use Rattle.lrverdicts.specs.Listed.{told, listed}

-- no conflict is found, and none that precedences resolve
pub record FindNothing (f : Findings) : Type 0 where
  pub conflicts : f.conflicts.items ≡ []
  pub left : f.left.items ≡ []
  pub resolved : f.resolved.items ≡ []

-- no token has a precedence, and the table lists no conflict
abbrev pub IsPlain : Findings → Type 0
IsPlain f = HasNoPrecedences f.grm × (f.conflicts.items ≡ [])

-- the grammar is that of the file, with indices up to the greatest; graph, table and conflicts are the
-- grammar's, and there is a graph unless nothing is found; it is told to be unambiguous only where no sentence
-- has two trees, and always where the table lists nothing and no token has a precedence; the conflicts that are left open are
-- those of the table where no token has a precedence, and else those that precedences leave open in the states of the graph that
-- are reached; what is resolved is what precedences resolve there; and the productions that are never reduced are those by which no
-- such state reduces, and none where nothing meets in a cell
pub record AreFindings (max : ℕ) (file : FileGrammar) (f : Findings) : Type 0 where
  pub grammar : IsGrammarOfFile max file f.has_precedences f.grm
  pub graph : Graph
  pub of_grammar : IsGraphOf f.grm graph
  pub table : IsTableOf f.grm graph f.table
  pub contested : AreReductionsContested f.grm graph
  pub kept : IfSome f.graph (λ h. h ≡ graph)
  pub states : f.states ≡ length graph
  pub without : IfNone f.graph (FindNothing f)
  pub conflicts : IsPermutation (listed (lists_of f.table)) (map told f.conflicts.items)
  pub left_listed :
      HasNoPrecedences f.grm → IsPermutation (listed (lists_of f.table)) (map told f.left.items)
  pub left : ¬ (HasNoPrecedences f.grm) → AreLeft f.grm graph (map told f.left.items)
  pub resolved : AreResolved f.grm graph (map resolution f.resolved.items)
  pub unreduced : ¬ (IsPlain f) → AreNeverReduced f.grm graph f.unreduced.items
  pub plain : IsPlain f → f.unreduced.items ≡ []
  pub unambiguous : IsTrue f.is_unambiguous → IsUnambiguous f.grm
  pub known : HasNoPrecedences f.grm → ListsNothing f.table → IsTrue f.is_unambiguous

-- the precedences of the file decide nothing: with them its grammar has a table that lists no conflict, and in the states of its
-- graph that are reached they leave none open and resolve none
pub record DecidesNothing (max : ℕ) (file : FileGrammar) : Type 0 where
  pub grammar : Grammar
  pub graph : Graph
  pub table : Table
  pub of_file : IsGrammarOfFile max file true grammar
  pub of_grammar : IsGraphOf grammar graph
  pub of_graph : IsTableOf grammar graph table
  pub nothing : ListsNothing table
  pub left : ¬ (HasNoPrecedences grammar) → AreLeft grammar graph []
  pub resolved : AreResolved grammar graph []
