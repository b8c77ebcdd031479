-- what is proved of a conclusion
use Rattle.std.specs.Prelude.{◌≡◌, ◌⊎◌, ℕ, Bool, true, not, List, [], None, All, IfSome, IsTrue, length, map, if◌then◌else◌}
use Rattle.std.specs.Option.{option_or}
use Rattle.std.specs.declared.alloc.Global.{Global}
use Rattle.std.specs.declared.vec.Vec.{Vec}
use Rattle.lrspec.specs.grammars.Grammar.{Grammar}
use Rattle.lrspec.specs.merging.Graph.{Graph, IsGraphOf}
use Rattle.lrspec.specs.tables.LrTables.{HasNoPrecedences}
use Rattle.lrspec.specs.tables.Recognition.{IsUnambiguous}
use Rattle.lrspec.specs.tables.Table.{Table, IsTableOf}
use Rattle.lryacc.specs.declared.faults.Fault.{Fault}
use Rattle.lryacc.specs.declared.file.FileRead.TheVariants as reading
use Rattle.lryacc.specs.declared.meaning.Expected.{Expected}
use Rattle.lryacc.specs.declared.numbering.FileGrammar.{FileGrammar}
use Rattle.lryacc.specs.declared.parsers.Parser.{Parser}
use Rattle.lryacc.specs.FilesRead.{ComesTo}
use Rattle.lryacc.specs.Parsers.{splits}
use Rattle.lrverdicts.specs.Verdicts.{counts_of, IsVerdict}
use Rattle.lrfindings.specs.CellConflicts.{Resolution}
use Rattle.lrfindings.specs.ReachedStates.{AreResolved}
use Rattle.lrfindings.specs.FileGrammars.{IsGrammarOfFile}
use Rattle.lrfindings.specs.Findings.{DecidesNothing}
use Rattle.lrevidence.specs.Ambiguities.{HasTwoTrees, IsProved, PartsAtEntry}
use Rattle.lrevidence.specs.Losses.{IsLostAtEntry}
use Rattle.lrevidence.specs.DecidedEntries.{IsDecidedOf}
use Rattle.lrevidence.specs.KeptEntries.{IsKeptEntry}
use Rattle.lrshown.specs.declared.evidence.Evidence.{Evidence}
use Rattle.lrshown.specs.Exactness.{Exact, ButAtErrors, Open, IsExact, IsExactButAtErrors}
use Rattle.lrreport.specs.declared.options.Options.{Options}
use Rattle.lrreport.specs.declared.reports.Conclusion.{Conclusion}
use Rattle.lrreport.specs.declared.reports.Outcome.{Outcome}
use Rattle.lrreport.specs.LeftOpen.{AreLeftOpen}

-- how many conflicts are expected: as many shift/reduce ones as an option says, or else as the file does
abbrev pub expected_beside : Options → Expected → Expected
expected_beside options file =
    record {
      shift_reduce = option_or options.expected file.shift_reduce;
      reduce_reduce = file.reduce_reduce;
    }

-- what is known of an entry, but for a sentence that is rejected
abbrev pub without_loss : Evidence → Evidence
without_loss e = record e { loss = None }

-- what is known of entries for a parser: one that splits at conflicts rejects no sentence because of one
abbrev pub known_by : Parser → List Evidence → List Evidence
known_by parser evidence = if splits parser then map without_loss evidence else evidence

-- the text is read as that grammar, as many conflicts are expected as it says, unless an option does, and of a parser that splits
-- at conflicts no sentence is told to be rejected, nor that it accepts every one, nor that an entry loses none
pub record IsSaidBy (options : Options) (text : List ℕ) (c : Conclusion) : Type 0 where
  pub expected : Expected
  pub parser : Parser
  pub warnings : Vec Fault Global
  pub read : ComesTo text options.dialect (reading.Grammar c.file expected parser warnings)
  pub beside : c.expected ≡ expected_beside options expected
  pub unlost : splits parser ≡ true → All (λ e. e.loss ≡ None) c.evidence.items
  pub untold : splits parser ≡ true → c.exactness ≡ Open
  pub unkept : splits parser ≡ true → c.kept.items ≡ []

-- what is concluded of the grammar of a file
abbrev pub conclusion_of : FileGrammar → Outcome → Conclusion
conclusion_of file o =
    record {
      file = file;
      has_precedences = o.has_precedences;
      expected = o.expected;
      verdict = o.verdict;
      is_unambiguous = o.is_unambiguous;
      exactness = o.exactness;
      evidence = o.evidence;
      kept = o.kept;
      resolved = o.resolved;
      decided = o.decided;
    }

-- of the grammar of the file, with its precedences, unless these are left out, or the table with them lists nothing: the entries
-- are the conflicts that are left open; the verdict is by their number, and by the one that is expected; "unambiguous" is told
-- only where no sentence has two trees, which may be shown where there are conflicts too, and "no conflicts" never where none is left open and no token has a precedence; so many
-- are resolved as precedences decide in the states that are reached; each sentence that is told of an entry has two trees, which part in its state,
-- where its token comes; each that is told to be rejected is a sentence that the machine of the grammar's table rejects, since
-- it goes wrong there; of each entry that is told to be decided no sentence has two trees that part there by what meets in it,
-- and so many tokens of lookahead decide it; where the parser is told to accept every sentence, its machine accepts exactly the
-- sentences, whatever precedences and the order of rules decide, or all but some that stop at an error that `%nonassoc` makes; where
-- an entry is told to lose no sentence, both moves that meet there are kept; and a sentence that precedences decide has two trees
pub record IsConcluded (left_out : Bool) (c : Conclusion) : Type 0 where
  pub max : ℕ
  pub grammar : Grammar
  pub graph : Graph
  pub shown : Bool
  pub of_file : IsGrammarOfFile max c.file c.has_precedences grammar
  pub kept : (c.has_precedences ≡ not left_out) ⊎ DecidesNothing max c.file
  pub of_grammar : IsGraphOf grammar graph
  pub left : AreLeftOpen grammar graph (map (λ e. e.entry) c.evidence.items)
  pub resolved :
      (rs : List Resolution) × AreResolved grammar graph rs × (c.resolved ≡ length rs)
  pub verdict :
      IsVerdict shown (counts_of (map (λ e. e.entry) c.evidence.items)) c.expected c.verdict
  pub unambiguous : IsTrue shown → IsUnambiguous grammar
  pub yet_unambiguous : IsTrue c.is_unambiguous → IsUnambiguous grammar
  pub known : HasNoPrecedences grammar → c.evidence.items ≡ [] → IsTrue shown
  pub texts : All (IsProved grammar) c.evidence.items
  pub parts : All (PartsAtEntry grammar graph) c.evidence.items
  pub table : Table
  pub table_of : IsTableOf grammar graph table
  pub lost : All (IsLostAtEntry grammar table) c.evidence.items
  pub decided : All (IsDecidedOf grammar graph) c.evidence.items
  pub exact : c.exactness ≡ Exact → IsExact grammar table
  pub but_at_errors : c.exactness ≡ ButAtErrors → IsExactButAtErrors grammar graph table
  pub kept_entries : All (IsKeptEntry grammar graph table) c.kept.items
  pub without : IfSome c.decided (HasTwoTrees grammar)
