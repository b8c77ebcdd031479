-- lines of words, of at most 80 bytes where no word alone has more
use Rattle.std.specs.Prelude.{ℕ, ◌+◌, ◌-◌, min, List, [], ◌∷◌, ◌++◌, codes, length, nat_lt, if◌then◌else◌}
use Rattle.lrspec.specs.texts.PrintedTexts.{spaces}

-- words in a line in which `room` bytes are left: each stands behind a space where it goes into the
-- line, and else in a further line behind `hang` spaces; a line feed ends the last line
abbrev pub words_text : ℕ → ℕ → List (List ℕ) → List ℕ
words_text hang room [] = codes "\n"
words_text hang room (w ∷ ws) =
    if nat_lt (length w) room then codes " " ++ w ++ words_text hang (room - 1 - length w) ws
    else codes "\n" ++ spaces hang ++ w ++ words_text hang (80 - hang - length w) ws

-- a line of `indent` spaces, a label and words; further lines begin where the words do, but behind
-- 40 spaces at the most
unfoldable pub line_text : ℕ → List ℕ → List (List ℕ) → List ℕ
line_text indent label ws =
    spaces indent ++ label
    ++ words_text (min (indent + length label + 1) 40) (80 - indent - length label) ws
