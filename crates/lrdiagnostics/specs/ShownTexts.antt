-- what a terminal is shown of a text
use Rattle.std.specs.Prelude.{ℕ, ◌==◌, ◌||◌, Bool, List, chars, encode_utf8_all, map, if◌then◌else◌}
use Rattle.std.specs.Char.{is_control}
use Rattle.std.specs.Int.{is_in_range}

-- what changes the direction of what stands behind it
abbrev pub is_turning : ℕ → Bool
is_turning c = is_in_range 0x202A 0x202E c || is_in_range 0x2066 0x2069 c

-- what is shown for a character: a blank for a tab, and something else than itself where a terminal would not show it
abbrev pub shown_character : ℕ → ℕ
shown_character c =
    if c == 9 then 32
    else (if is_turning c then 0xFFFD
    else (if is_control c then 63 else c))

-- what is shown of a text
abbrev pub shown_text : List ℕ → List ℕ
shown_text text = encode_utf8_all (map shown_character (chars text))
