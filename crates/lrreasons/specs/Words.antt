-- the words of texts: of symbols, and at most 24 on either side of a dot
use Rattle.std.specs.Prelude.{ℕ, ◌-◌, List, [], ◌∷◌, ◌++◌, codes, drop, length, map, nat_lt, take, if◌then◌else◌}
use Rattle.lrspec.specs.grammars.Grammar.{Symbol, Grammar}
use Rattle.lrspec.specs.texts.PrintedTexts.{symbol_text}

-- the words of symbols
abbrev pub words_of : Grammar → List Symbol → List (List ℕ)
words_of g xs = map (symbol_text g) xs

-- the last 24 words, behind three points where there are more
unfoldable pub last_words : List (List ℕ) → List (List ℕ)
last_words ws = if nat_lt 24 (length ws) then codes "..." ∷ drop (length ws - 24) ws else ws

-- the first 24 words, before three points where there are more
unfoldable pub first_words : List (List ℕ) → List (List ℕ)
first_words ws = if nat_lt 24 (length ws) then take 24 ws ++ codes "..." ∷ [] else ws

-- words with a dot behind the first `d` of them
unfoldable pub with_dot : ℕ → List (List ℕ) → List (List ℕ)
with_dot d ws = last_words (take d ws) ++ codes "." ∷ first_words (drop d ws)
