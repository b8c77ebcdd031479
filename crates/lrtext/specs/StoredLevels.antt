-- the names that precedence lines give a level, as the code stores them, by plain lists
use Rattle.std.specs.Prelude.{ℕ, List, map}
use Rattle.std.specs.String.{string_bytes}
use Rattle.lrtext.specs.declared.meaning.precedences.Leveled.{Leveled}
use Rattle.lrtext.specs.declared.reader.ReadError.{ReadError}
use Rattle.lrtext.specs.declared.reader.ReadError.TheVariants as read_error
use Rattle.lrtext.specs.StoredParts.{precedence_of}
use Rattle.lrspec.specs.grammars.Grammar.{Precedence}
use Rattle.lrspec.specs.texts.Meaning.{IsFirstRepeat}

-- a name with its precedence as a document gives it
abbrev pub leveled_of : Leveled → List ℕ × Precedence
leveled_of l = (l.name.now, precedence_of l.precedence)

-- the names that were given a level
abbrev pub leveled_names : List Leveled → List (List ℕ)
leveled_names ls = map (λ l. l.name.now) ls

-- the error is the first name that comes a second time, or says that memory was refused
abbrev pub IsRepeat : List (List ℕ) → ReadError → Type 0
IsRepeat ws (read_error.DuplicatePrecedence w) = IsFirstRepeat ws (string_bytes w)
IsRepeat ws read_error.Memory = Unit {0}
IsRepeat ws _ = ⊥
