-- what callers in C find in their buffers
use Rattle.std.specs.Prelude.{◌≡◌, ℕ, ◌⊎◌, Bool, true, List, ◌++◌, length, take, drop}
use Rattle.std.specs.declared.alloc.Global.{Global}
use Rattle.std.specs.declared.vec.Vec.{Vec}
use Rattle.lrspec.specs.grammars.Grammar.{Grammar}
use Rattle.lrspec.specs.merging.Graph.{Graph, IsGraphOf}
use Rattle.lrspec.specs.tables.Table.{Table, IsTableOf}
use Rattle.lrflat.specs.Flat.{flat}
use Rattle.lryacc.specs.declared.dialects.Dialect.TheVariants.{Bison}
use Rattle.lryacc.specs.declared.faults.Fault.{Fault}
use Rattle.lryacc.specs.declared.file.FileRead.TheVariants as reading
use Rattle.lryacc.specs.declared.meaning.Expected.{Expected}
use Rattle.lryacc.specs.declared.numbering.FileGrammar.{FileGrammar}
use Rattle.lryacc.specs.declared.parsers.Parser.{Parser}
use Rattle.lryacc.specs.FilesRead.{ComesTo}
use Rattle.lrfindings.specs.FileGrammars.{IsGrammarOfFile}
use Rattle.lrfindings.specs.Findings.{DecidesNothing}

-- a buffer into which as much of a list was put as it has room for
abbrev pub put_in : {A : Type 0} → List A → List A → List A
put_in buffer whole = take (length buffer) whole ++ drop (length whole) buffer

-- so long is what is told, and as much of it as the buffer has room for stands there
pub record IsTold (count : ℕ) (old new : List ℕ) : Type 0 where
  pub whole : List ℕ
  pub counted : count ≡ length whole
  pub written : new ≡ put_in old whole

-- the text is read as that grammar of Bison
pub record IsSaidBy (text : List ℕ) (file : FileGrammar) : Type 0 where
  pub expected : Expected
  pub parser : Parser
  pub warnings : Vec Fault Global
  pub read : ComesTo text Bison (reading.Grammar file expected parser warnings)

-- numbers are all cells, gotos and productions of the table of the graph of the grammar that the text is read as
pub record IsFlat (text numbers : List ℕ) : Type 0 where
  pub file : FileGrammar
  pub said : IsSaidBy text file
  pub max : ℕ
  pub has_precedences : Bool
  pub grammar : Grammar
  pub of_file : IsGrammarOfFile max file has_precedences grammar
  -- they are heeded, unless they decide nothing
  pub heeded : (has_precedences ≡ true) ⊎ DecidesNothing max file
  pub graph : Graph
  pub table : Table
  pub of_grammar : IsGraphOf grammar graph
  pub of_graph : IsTableOf grammar graph table
  pub is : numbers ≡ flat grammar table

-- so many numbers has the table of a text, and as many of them as the buffer has room for stand there
pub record IsTable (text : List ℕ) (count : ℕ) (old new : List ℕ) : Type 0 where
  pub numbers : List ℕ
  pub flat : IsFlat text numbers
  pub counted : count ≡ length numbers
  pub written : new ≡ put_in old numbers
