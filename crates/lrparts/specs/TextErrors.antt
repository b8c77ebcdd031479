-- Which error tells why a text gives no grammar.
use Rattle.std.specs.Prelude.{◌≡◌, ◌≢◌, ℕ, List}
use Rattle.std.specs.String.{string_bytes}
use Rattle.lrparts.specs.declared.errors.GrammarError.{GrammarError}
use Rattle.lrparts.specs.declared.errors.GrammarError.TheVariants as error
use Rattle.lrparts.specs.declared.errors.TextError.{TextError}
use Rattle.lrparts.specs.declared.errors.TextError.TheVariants as text_error
use Rattle.lrtext.specs.declared.reader.ReadError.{ReadError}
use Rattle.lrtext.specs.declared.reader.ReadError.TheVariants as read_error
use Rattle.lrspec.specs.grammars.Grammar.{Grammar}
use Rattle.lrspec.specs.texts.Parts.{Parts, grammar_of_parts, NoCause}
use Rattle.lrspec.specs.texts.Meaning as meaning
use Rattle.lrspec.specs.texts.Meaning.{IsRefused, Means}
use Rattle.lrparts.specs.Refusals.{IsRefusedBy}

-- the same error of a text
abbrev pub read_refusal_of : ReadError → TextError
read_refusal_of (read_error.Syntax n) = text_error.Syntax n
read_refusal_of (read_error.UnknownSymbol w) = text_error.UnknownSymbol w
read_refusal_of (read_error.DuplicatePrecedence w) = text_error.DuplicatePrecedence w
read_refusal_of read_error.Memory = text_error.Memory

-- the same error of a text; that memory was refused has one of its own
abbrev pub text_error_of : GrammarError → TextError
text_error_of error.Memory = text_error.Memory
text_error_of e = text_error.Grammar e

-- the text means parts against which nothing stands, and the grammar is theirs
pub record IsGrammarOf (most : ℕ) (text : List ℕ) (g : Grammar) : Type 0 where
  pub parts : Parts
  pub means : Means text parts
  pub free : NoCause most parts
  pub grammar : g ≡ grammar_of_parts parts

-- the text means parts that are refused so, and not since memory was refused
pub record IsGrammarRefusal (most : ℕ) (text : List ℕ) (e : GrammarError) : Type 0 where
  pub parts : Parts
  pub means : Means text parts
  pub refused : IsRefusedBy most parts e
  pub not_memory : e ≢ error.Memory

-- why the text gives no grammar
abbrev pub IsTextError : ℕ → List ℕ → TextError → Type 0
IsTextError most text (text_error.Syntax n) = IsRefused text (meaning.TextRefusal.Syntax n)
IsTextError most text (text_error.UnknownSymbol w) =
    IsRefused text (meaning.TextRefusal.UnknownSymbol (string_bytes w))
IsTextError most text (text_error.DuplicatePrecedence w) =
    IsRefused text (meaning.TextRefusal.DuplicatePrecedence (string_bytes w))
IsTextError most text (text_error.Grammar e) = IsGrammarRefusal most text e
IsTextError most text text_error.Memory = Unit {0}
