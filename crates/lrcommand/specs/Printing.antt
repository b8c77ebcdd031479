-- what is printed of a grammar, and why nothing is
use Rattle.std.specs.Prelude.{◌≡◌, ◌≢◌, ℕ, List, ◌++◌, Option, None, Some, codes}
use Rattle.std.specs.Io.KnownBytes.{Appends}
use Rattle.std.specs.List.{All}
use Rattle.std.specs.Option.{IsSomeAnd}
use Rattle.std.specs.Str.{IsUtf8}
use Rattle.lrspec.specs.grammars.Grammar.{Grammar}
use Rattle.lrspec.specs.grammars.ItemSets.{Items, Fits, AreUpwards}
use Rattle.lrspec.specs.grammars.StartState.{IsCanonicalStart}
use Rattle.lrspec.specs.merging.Graph.{Graph, IsInOrder}
use Rattle.lrspec.specs.merging.Merged.{IsMerged}
use Rattle.lrspec.specs.tables.Table.{Table, lists_of}
use Rattle.lrspec.specs.tables.Built.{IsBuilt}
use Rattle.lrspec.specs.tables.Conflicts.{IsAcceptContested}
use Rattle.lrspec.specs.tables.LrTables.{ListsNothing, IsExactAnswer}
use Rattle.lrspec.specs.texts.PrintedTexts.{items_text, core_text, closed_text, conflicts_text}
use Rattle.lrgrammar.specs.TextErrors.{IsGrammarOf, IsTextError}
use Rattle.lrtable.specs.Refusals.{IsBuildRefusal}
use Rattle.lrcommand.specs.declared.requests.Listing.{Listing}
use Rattle.lrcommand.specs.declared.requests.Listing.TheVariants.{Start, Core, Closed, Conflicts}
use Rattle.lrcommand.specs.declared.faults.Fault.{Fault}
use Rattle.lrcommand.specs.declared.faults.Fault.TheVariants.{CannotRead, NotUtf8, Text, Build, Memory, CannotWrite}
use Rattle.lrcommand.specs.Requests.{name_of, source_text}

-- the greatest index of 32 bits
abbrev pub max_index : ℕ
max_index = 4294967295

-- the item set is what stands after no symbol, looking where it looks there
pub record IsStartState (g : Grammar) (c : Items) : Type 0 where
  pub fits : Fits g c
  pub canonical : IsCanonicalStart g c
  pub upwards : AreUpwards c

-- the graph is the grammar's, made by merging, and it lists items upwards and no symbol twice in a
-- state
pub record IsMergedGraph (g : Grammar) (h : Graph) : Type 0 where
  pub merged : IsMerged g h
  pub order : All IsInOrder h

-- no production contends with accepting
abbrev pub AcceptsAlone : Grammar → Type 0
AcceptsAlone g = (p : ℕ) → ¬ (IsAcceptContested g p)

-- the table is that of a graph of the grammar, made by merging, and the headline holds of it
pub record IsMergedTable (g : Grammar) (b : Table) : Type 0 where
  pub graph : Graph
  pub built : IsBuilt g graph b
  pub headline : IsExactAnswer g (Some b)

-- the text that is printed of a grammar
pub data Prints (g : Grammar) : Listing → List ℕ → Type 0 where
  start : {c : Items} → IsStartState g c → Prints g Start (items_text g c ++ codes "\n")
  core :
      {h : Graph} → IsMergedGraph g h → AcceptsAlone g
      → Prints g Core (core_text g h ++ codes "\n")
  closed :
      {h : Graph} → IsMergedGraph g h → AcceptsAlone g
      → Prints g Closed (closed_text g h ++ codes "\n")
  no_conflicts :
      {b : Table} → IsMergedTable g b → AcceptsAlone g → ListsNothing b
      → Prints g Conflicts (codes "no conflicts\n")
  conflicts :
      {b : Table} → IsMergedTable g b → AcceptsAlone g → ¬ (ListsNothing b)
      → Prints g Conflicts (conflicts_text g (lists_of b))

-- the bytes are a grammar text that means the grammar
abbrev pub MeansGrammar : List ℕ → Grammar → Type 0
MeansGrammar bytes g = IsUtf8 bytes × IsGrammarOf max_index bytes g

-- the bytes are a grammar text, and what is printed of its grammar is the text
pub record IsPrinted (bytes : List ℕ) (listing : Listing) (text : List ℕ) : Type 0 where
  pub utf8 : IsUtf8 bytes
  pub grammar : Grammar
  pub means : IsGrammarOf max_index bytes grammar
  pub prints : Prints grammar listing text

-- something is printed of the grammar that the bytes mean
abbrev pub PrintsSome : Option (List ℕ) → Listing → Type 0
PrintsSome bytes listing = IsSomeAnd bytes (λ bs. (text : List ℕ) × IsPrinted bs listing text)

-- what a writer holds grew by what is printed of the grammar that the bytes mean
abbrev pub AppendsPrinted :
    Option (List ℕ) → Option (List ℕ) → Option (List ℕ) → Listing → Type 0
AppendsPrinted old new bytes listing =
    IsSomeAnd bytes (λ bs. (text : List ℕ) × IsPrinted bs listing text × Appends old new text)

-- why the bytes of that name, which are none where they could not be read, are no text
abbrev pub IsUnread : Option (List ℕ) → Option (List ℕ) → Fault → Type 0
IsUnread bytes name (CannotRead source) = (bytes ≡ None) × (name_of source ≡ name)
IsUnread bytes name (NotUtf8 source) =
    IsSomeAnd bytes (λ bs. ¬ (IsUtf8 bs)) × (name_of source ≡ name)
IsUnread bytes name e = ⊥

-- why nothing is printed of a grammar; want of memory says nothing
abbrev pub IsUnprinted : Grammar → Listing → Fault → Type 0
IsUnprinted g listing (Build e) = IsBuildRefusal (λ n. n) max_index g e × (listing ≢ Start)
IsUnprinted g listing Memory = Unit {0}
IsUnprinted g listing e = ⊥

-- why the bytes of that name mean no grammar: the first of these causes
abbrev pub IsTextFault : Option (List ℕ) → Option (List ℕ) → Fault → Type 0
IsTextFault bytes name (Text e) = IsSomeAnd bytes (λ bs. IsUtf8 bs × IsTextError max_index bs e)
IsTextFault bytes name Memory = Unit {0}
IsTextFault bytes name e = IsUnread bytes name e

-- why nothing is printed about the bytes of that name: the first of these causes
abbrev pub IsFault : Option (List ℕ) → Listing → Option (List ℕ) → Fault → Type 0
IsFault bytes listing name (Build e) =
    IsSomeAnd bytes (λ bs.
    (g : Grammar) × MeansGrammar bs g × IsUnprinted g listing (Build e))
IsFault bytes listing name e = IsTextFault bytes name e

-- why the text that is to be printed about the bytes of that name is not: it cannot be written, or
-- there is none
abbrev pub IsPrintFault : Option (List ℕ) → Listing → Option (List ℕ) → Fault → Type 0
IsPrintFault bytes listing name CannotWrite = PrintsSome bytes listing
IsPrintFault bytes listing name e = IsFault bytes listing name e

-- how a fault is told, where the text is not that of an error of a library
abbrev pub fault_text : Fault → Option (List ℕ)
fault_text (CannotRead source) = Some (codes "cannot read " ++ source_text source)
fault_text (NotUtf8 source) = Some (source_text source ++ codes " is not UTF-8")
fault_text Memory = Some (codes "out of memory")
fault_text CannotWrite = Some (codes "cannot write standard output")
fault_text e = None
