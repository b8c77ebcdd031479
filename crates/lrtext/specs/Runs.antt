-- runs of bytes: which bytes are of a run, and where a text may be cut behind it
use Rattle.std.specs.Prelude.{ℕ, ◌<◌, ◌==◌, Bool}
use Rattle.std.specs.Char.{is_ascii_alphabetic}
use Rattle.lrtext.specs.declared.runs.Run.TheVariants as run
use Rattle.lrtext.specs.declared.runs.Run.{Run}
use Rattle.lrspec.specs.texts.Lexemes.{is_no_line_feed, is_name_byte, may_be_quoted}

-- which bytes are of a run
abbrev pub passes : Run → ℕ → Bool
passes run.Name = is_name_byte
passes run.Word = is_ascii_alphabetic
passes run.Line = is_no_line_feed
passes (run.Quoted q) = may_be_quoted q

-- the bytes of the run, or the byte that ends it, are ASCII
abbrev pub EndsByAscii : Run → Type 0
EndsByAscii run.Name = Unit {0}
EndsByAscii run.Word = Unit {0}
EndsByAscii run.Line = Unit {0}
EndsByAscii (run.Quoted q) = q < 128

-- whether a byte is that byte
abbrev pub is_byte : ℕ → ℕ → Bool
is_byte b c = c == b
