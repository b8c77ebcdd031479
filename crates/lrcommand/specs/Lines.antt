-- how lines are answered, and why that ends before they do
use Rattle.std.specs.Prelude.{ℕ, List, Option}
use Rattle.std.specs.Io.KnownBytes.{Appends, IsAtEnd}
use Rattle.std.specs.Option.{IsSomeAnd}
use Rattle.lrspec.specs.grammars.Grammar.{Grammar}
use Rattle.lrspec.specs.tables.Table.{Table}
use Rattle.lrspec.specs.texts.Devices.{ConsumesSome, AppendsBeginning}
use Rattle.lrspec.specs.texts.Lines.{answer_text}
use Rattle.lrspec.specs.texts.MachineLines.{line_answer}
use Rattle.lrspec.specs.texts.TreeTexts.{tree_answer}
use Rattle.lrtable.specs.Refusals.{IsBuildRefusal}
use Rattle.lrcommand.specs.declared.requests.Reply.{Reply}
use Rattle.lrcommand.specs.declared.requests.Reply.TheVariants.{Run, Tree}
use Rattle.lrcommand.specs.declared.faults.Fault.{Fault}
use Rattle.lrcommand.specs.declared.faults.Fault.TheVariants.{Build, Lines}
use Rattle.lrcommand.specs.Printing.{max_index, MeansGrammar, IsMergedTable, AcceptsAlone, IsTextFault}

-- the bytes are a grammar text, and this is the table of its grammar
pub record HasTable (bytes : List ℕ) (g : Grammar) (b : Table) : Type 0 where
  pub means : MeansGrammar bytes g
  pub table : IsMergedTable g b
  pub accepts : AcceptsAlone g

-- the reply to a line by the machine of the table, in at most so many steps
abbrev pub reply_text : Reply → Grammar → Table → ℕ → List ℕ → List ℕ
reply_text Run g b steps line = line_answer g b steps line
reply_text Tree g b steps line = tree_answer g b steps line

-- the bytes are a grammar text, the grammar has a table, and the fact holds of how the machine
-- answers a line by such a reply, in at most so many steps
abbrev pub HasMachine : Option (List ℕ) → Reply → ℕ → ((List ℕ → List ℕ) → Type 0) → Type 0
HasMachine bytes reply steps P =
    IsSomeAnd bytes (λ bs.
    (g : Grammar) × (b : Table) × HasTable bs g b × P (reply_text reply g b steps))

-- a reader that had these bytes was read to its end, and what a writer holds grew by the answers to
-- all lines that were read
abbrev pub AnswersAll :
    (List ℕ → List ℕ) → Option (List ℕ) → Option (List ℕ) → Option (List ℕ) → Type 0
AnswersAll answer bytes old new =
    (left : Option (List ℕ)) × IsAtEnd left
    × ConsumesSome bytes left (λ read. Appends old new (answer_text answer read))

-- something was read of a reader that had these bytes, and what a writer holds grew by a beginning
-- of the answers to that
abbrev pub AnswersBeginning :
    (List ℕ → List ℕ) → Option (List ℕ) → Option (List ℕ) → Option (List ℕ) → Type 0
AnswersBeginning answer bytes old new =
    (left : Option (List ℕ))
    × ConsumesSome bytes left (λ read. AppendsBeginning old new (answer_text answer read))

-- why the bytes of that name give no table: the first of these causes
abbrev pub IsTableFault : Option (List ℕ) → Option (List ℕ) → Fault → Type 0
IsTableFault bytes name (Build e) =
    IsSomeAnd bytes (λ bs.
    (g : Grammar) × MeansGrammar bs g × IsBuildRefusal (λ n. n) max_index g e)
IsTableFault bytes name e = IsTextFault bytes name e

-- why lines are not all answered with the bytes of that name: there is no table, or else a fault
-- of the lines
abbrev pub IsLinesFault : Option (List ℕ) → Option (List ℕ) → Fault → Type 0
IsLinesFault bytes name (Lines e) =
    IsSomeAnd bytes (λ bs. (g : Grammar) × (b : Table) × HasTable bs g b)
IsLinesFault bytes name e = IsTableFault bytes name e
