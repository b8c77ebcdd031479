-- what stands around the bodies of a file
use Rattle.std.specs.Prelude.{ℕ, zero, suc, ◌+◌, if◌then◌else◌, Bool, true, false, List, Option, None, Some, slice_get}
use Rattle.lryacc.specs.declared.lexemes.Lexeme.{Lexeme}
use Rattle.lryacc.specs.declared.lexemes.LexemeKind.{LexemeKind}
use Rattle.lryacc.specs.declared.lexemes.LexemeKind.TheVariants as kind

-- names of rules, `:`, `|` and `%%`
abbrev pub is_delimiter : LexemeKind → Bool
is_delimiter kind.RuleName = true
is_delimiter kind.Colon = true
is_delimiter kind.Bar = true
is_delimiter kind.Separator = true
is_delimiter _ = false

-- how many of them such a lexeme is: one or none
abbrev pub delimiter_of : LexemeKind → ℕ
delimiter_of found = if is_delimiter found then 1 else 0

-- how many of them stand at a place
abbrev pub delimiter_at : Option Lexeme → ℕ
delimiter_at None = 0
delimiter_at (Some lexeme) = delimiter_of lexeme.kind

-- how many of them stand before a place
unfoldable pub delimiters_before : List Lexeme → ℕ → ℕ
delimiters_before lexemes zero = 0
delimiters_before lexemes (suc at) =
    delimiters_before lexemes at + delimiter_at (slice_get lexemes at)
