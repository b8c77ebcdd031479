-- bytes of one class
use Rattle.std.specs.Prelude.{◌||◌, ◌==◌, ℕ, not, Bool, codes}
use Rattle.std.specs.Char.{is_ascii_alphanumeric, is_ascii_digit, is_ascii_hexdigit}
use Rattle.std.specs.List.{list_any}
use Rattle.lryacc.specs.declared.runs.Run.{Run}
use Rattle.lryacc.specs.declared.runs.Run.TheVariants as run
use Rattle.lryacc.specs.Comments.{is_white}
use Rattle.lryacc.specs.Words.{is_in_directive, is_in_name, is_in_rest, is_in_word}

-- whether a run may have a byte
abbrev pub has : Run → ℕ → Bool
has run.Digits = is_ascii_digit
has run.HexDigits = is_ascii_hexdigit
has run.Name = is_in_name
has run.Word = is_in_word
has run.Directive = is_in_directive
has run.Blanks = is_white
has run.Line = is_in_rest
has run.Invalid = λ byte.
    not (is_white byte || (is_ascii_alphanumeric byte
    || list_any (λ mark. byte == mark) (codes "%[{}<>\"'*;|=/,_")))
