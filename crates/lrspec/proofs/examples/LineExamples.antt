-- the lines and words of short texts, and the text of answers to lines
use Rattle.std.proofs.Common.{◌≡◌, [], ◌∷◌, ◌++◌, refl, codes}
use Rattle.lrspec.specs.texts.Lines.{whole_lines, rest_of, lines, words, answer_text}

-- an empty line, and a last line without a line feed
four_lines : lines (codes "id - id\n\nid +\nid") ≡ codes "id - id" ∷ [] ∷ codes "id +" ∷ codes "id" ∷ []
four_lines = refl

-- of which three are whole
three_whole : whole_lines (codes "id - id\n\nid +\nid") ≡ codes "id - id" ∷ [] ∷ codes "id +" ∷ []
three_whole = refl

one_left : rest_of (codes "id - id\n\nid +\nid") ≡ codes "id"
one_left = refl

-- nothing has no line, and a line feed ends one empty line
no_line : lines [] ≡ []
no_line = refl

empty_line : lines (codes "\n") ≡ [] ∷ []
empty_line = refl

-- one carriage return before a line feed is dropped, and none elsewhere
carriage_returns : lines (codes "a\r\r\n\ra\n\r") ≡ codes "a\r" ∷ codes "\ra" ∷ codes "\r" ∷ []
carriage_returns = refl

-- words are parted by any number of blanks, which may stand around them
three_words : words (codes "  id\t-  id ") ≡ codes "id" ∷ codes "-" ∷ codes "id" ∷ []
three_words = refl

no_word : words (codes " \t ") ≡ []
no_word = refl

-- each line is answered by itself in brackets
bracketed : answer_text (λ line. codes "[" ++ line ++ codes "]") (codes "a\r\n\nb") ≡ codes "[a]\n[]\n[b]\n"
bracketed = refl
