-- the parts of which texts of reasons are made
use Rattle.std.specs.Prelude.{ℕ, ◌==◌, ◌&&◌, Bool, true, false, List, [], ◌∷◌, ◌++◌, codes, count_by, length, if◌then◌else◌}
use Rattle.lrspec.specs.grammars.Grammar.{Symbol, Rule, Token, Grammar, body_of, rule_of}
use Rattle.lrspec.specs.texts.PrintedTexts.{rule_name, token_text, shift_reduce_line, reduce_reduce_line}
use Rattle.lrconflicts.specs.Moves.{Move, Shift, Reduce}
use Rattle.lrconflicts.specs.Entries.{Entry, ShiftReduce, ReduceReduce}
use Rattle.lrreasons.specs.Words.{words_of, with_dot}
use Rattle.lrreasons.specs.Lines.{line_text}

-- ---- conflicts and candidates

-- the line of an entry, as the texts of a table's conflicts have it
abbrev pub conflict_line : Grammar → Entry → List ℕ
conflict_line g (ShiftReduce e) = shift_reduce_line g e
conflict_line g (ReduceReduce e) = reduce_reduce_line g e

-- whether moves are the same
abbrev pub is_same_move : Move → Move → Bool
is_same_move Shift Shift = true
is_same_move (Reduce p) (Reduce q) = p == q
is_same_move Shift (Reduce q) = false
is_same_move (Reduce p) Shift = false

-- the label of a candidate against another one: with its rule where both reduce
abbrev pub move_label : Grammar → Move → Move → List ℕ
move_label g Shift m = codes "shift:"
move_label g (Reduce p) Shift = codes "reduce:"
move_label g (Reduce p) (Reduce q) = codes "reduce " ++ rule_name g (rule_of g p) ++ codes ":"

-- the words of a candidate: its production, if it reduces
abbrev pub candidate_words : Grammar → Move → List (List ℕ)
candidate_words g Shift = codes "shift" ∷ []
candidate_words g (Reduce p) = (rule_name g (rule_of g p) ++ codes ":") ∷ words_of g (body_of g p)

-- which two candidates contend, where they are not those of the conflict's line: a reduction by the
-- production `p`, and another candidate
abbrev pub contest_text : Grammar → ℕ → Move → Move → Move → List ℕ
contest_text g p m one other =
    if is_same_move one (Reduce p) && is_same_move other m then []
    else
    line_text 9 (codes "between:") (candidate_words g one ++ codes "/" ∷ candidate_words g other)

-- ---- ambiguities

-- whether a move is a shift
abbrev pub is_shift : Move → Bool
is_shift Shift = true
is_shift (Reduce p) = false

-- how many moves are shifts
abbrev pub shifts : List Move → ℕ
shifts ms = count_by is_shift ms

-- ---- examples

-- an item: its rule, and its body with the dot
abbrev pub item_line : Grammar → ℕ × ℕ → List ℕ
item_line g i =
    line_text 9 (rule_name g (rule_of g i.0) ++ codes ":")
    (with_dot i.1 (words_of g (body_of g i.0)))

-- whether a symbol is a rule
abbrev pub is_rule : Symbol → Bool
is_rule (Rule r) = true
is_rule (Token t) = false

-- symbols with the dot behind them, and the token that comes next
abbrev pub before_line : Grammar → List ℕ → List Symbol → ℕ → List ℕ
before_line g label xs t =
    line_text 6 label (with_dot (length xs) (words_of g xs) ++ token_text g t ∷ [])

-- that a conflict is not real on its own token, where it is on another one
abbrev pub other_token_text : Grammar → ℕ → ℕ → List ℕ
other_token_text g own t =
    if own == t then [] else line_text 6 (codes "not real on") (token_text g own ∷ [])

-- ---- reasons that are told together

-- the tokens on which it is likewise
abbrev pub likewise_line : Grammar → List Symbol → List ℕ
likewise_line g [] = []
likewise_line g (x ∷ xs) = line_text 6 (codes "likewise on") (words_of g (x ∷ xs))
