-- lines of bytes, the words of a line, and the text of the answers to lines
use Rattle.std.specs.Prelude.{ℕ, ◌==◌, ◌≢◌, ◌||◌, Bool, List, [], ◌∷◌, ◌++◌, map}
use Rattle.std.specs.List.{All, flat_map, slice_split}
use Rattle.std.specs.Str.Lines.{strip_carriage_return}

-- those of some lists that are not empty
abbrev pub nonempty : List (List ℕ) → List (List ℕ)
nonempty [] = []
nonempty ([] ∷ xs) = nonempty xs
nonempty ((b ∷ x) ∷ xs) = (b ∷ x) ∷ nonempty xs

-- ---- lines

-- the parts of bytes between line feeds, one more than there are line feeds
abbrev pub line_parts : List ℕ → List (List ℕ)
line_parts bytes = slice_split (λ b. b == 10) bytes

-- all parts but the last
abbrev pub all_but_last : List (List ℕ) → List (List ℕ)
all_but_last [] = []
all_but_last (part ∷ []) = []
all_but_last (part ∷ next ∷ more) = part ∷ all_but_last (next ∷ more)

-- the last part
abbrev pub last_part : List (List ℕ) → List ℕ
last_part [] = []
last_part (part ∷ []) = part
last_part (part ∷ next ∷ more) = last_part (next ∷ more)

-- the whole lines: a line feed ends each, and one carriage return just before that is dropped
abbrev pub whole_lines : List ℕ → List (List ℕ)
whole_lines bytes = map strip_carriage_return (all_but_last (line_parts bytes))

-- what stands behind the last line feed
abbrev pub rest_of : List ℕ → List ℕ
rest_of bytes = last_part (line_parts bytes)

-- the lines: the whole ones, and the rest as it stands, if it is not empty
abbrev pub lines : List ℕ → List (List ℕ)
lines bytes = whole_lines bytes ++ nonempty (rest_of bytes ∷ [])

-- no byte is a line feed
abbrev pub HasNoLineFeed : List ℕ → Type 0
HasNoLineFeed bytes = All (λ b. b ≢ 10) bytes

-- ---- words

-- whether a byte is a space or a tab
abbrev pub is_blank : ℕ → Bool
is_blank b = b == 32 || b == 9

-- the words of a line, its longest runs of bytes that are no blanks: the parts between blanks, but
-- for empty ones
abbrev pub words : List ℕ → List (List ℕ)
words line = nonempty (slice_split is_blank line)

-- ---- answers

-- the answers to some lines, a line feed behind each
abbrev pub answers_to : (List ℕ → List ℕ) → List (List ℕ) → List ℕ
answers_to answer ls = flat_map (λ line. answer line ++ 10 ∷ []) ls

-- the text that answers bytes: the answers to their lines
abbrev pub answer_text : (List ℕ → List ℕ) → List ℕ → List ℕ
answer_text answer bytes = answers_to answer (lines bytes)
