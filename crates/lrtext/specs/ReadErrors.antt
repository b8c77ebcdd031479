-- what a text that is read comes to: its contents, or why it gives no parts
use Rattle.std.specs.Prelude.{◌≡◌, ℕ, List}
use Rattle.std.specs.String.{string_bytes}
use Rattle.lrtext.specs.declared.reader.ReadError.{ReadError}
use Rattle.lrtext.specs.declared.reader.ReadError.TheVariants as read_error
use Rattle.lrspec.specs.texts.Documents.{Document, Reads, IsSyntaxErrorAt}
use Rattle.lrspec.specs.texts.Meaning as meaning
use Rattle.lrspec.specs.texts.Meaning.{Contents, contents_of, IsRefused}

-- the text is a document with these contents
pub record HasContents (text : List ℕ) (c : Contents) : Type 0 where
  pub document : Document
  pub reads : Reads text document
  pub contents : c ≡ contents_of document

-- the error is the place of the text's syntax error, or says that memory was refused
abbrev pub IsSyntaxError : List ℕ → ReadError → Type 0
IsSyntaxError text (read_error.Syntax n) = IsSyntaxErrorAt text n
IsSyntaxError text read_error.Memory = Unit {0}
IsSyntaxError text _ = ⊥

-- the error is the cause why the text means no parts, or says that memory was refused
abbrev pub IsReadError : List ℕ → ReadError → Type 0
IsReadError text (read_error.Syntax n) = IsRefused text (meaning.TextRefusal.Syntax n)
IsReadError text (read_error.UnknownSymbol w) =
    IsRefused text (meaning.TextRefusal.UnknownSymbol (string_bytes w))
IsReadError text (read_error.DuplicatePrecedence w) =
    IsRefused text (meaning.TextRefusal.DuplicatePrecedence (string_bytes w))
IsReadError text read_error.Memory = Unit {0}
