-- the tokens that the words of a line name, and the texts of what the machine answers
use Rattle.std.specs.Prelude.{ℕ, ◌==◌, List, ◌++◌, codes, find, bytes_eq, Option, None, Some, is_none}
use Rattle.std.specs.Fmt.{decimal}
use Rattle.std.specs.List.{filter_map, flat_map, position, position_or_len}
use Rattle.lrspec.specs.grammars.Grammar.{Grammar, rule_of, productions_of}
use Rattle.lrspec.specs.tables.Machine as machine
use Rattle.lrspec.specs.tables.Machine.{Answer, Verdict, run}
use Rattle.lrspec.specs.tables.Table.{Table}
use Rattle.lrspec.specs.texts.Lines.{words}
use Rattle.lrspec.specs.texts.PrintedTexts.{rule_name}

-- ---- tokens

-- the token that the word names: the one whose name has the same bytes
abbrev pub token_of : Grammar → List ℕ → Option ℕ
token_of g w = position (bytes_eq w) g.token_names

-- the tokens that the words name
abbrev pub tokens_of : Grammar → List (List ℕ) → List ℕ
tokens_of g ws = filter_map (token_of g) ws

-- the first word that names no token
abbrev pub first_unknown : Grammar → List (List ℕ) → Option (List ℕ)
first_unknown g ws = find (λ w. is_none (token_of g w)) ws

-- ---- answers

-- the place of a production among those of its rule, upwards
abbrev pub place_in_rule : Grammar → ℕ → ℕ
place_in_rule g p = position_or_len (λ q. q == p) (productions_of g (rule_of g p))

-- a production as answers name it: its rule, a dot, and its place
abbrev pub production_label : Grammar → ℕ → List ℕ
production_label g p = rule_name g (rule_of g p) ++ codes "." ++ decimal (place_in_rule g p)

-- reductions, a space before each
abbrev pub reductions_text : Grammar → List ℕ → List ℕ
reductions_text g ps = flat_map (λ p. codes " " ++ production_label g p) ps

-- how a run ended, after so many steps with these reductions; nothing where the machine stuck
abbrev pub verdict_text : Grammar → Verdict → ℕ → List ℕ → List ℕ
verdict_text g machine.Verdict.Accepted n ps =
    codes "accept " ++ decimal n ++ codes ":" ++ reductions_text g ps
verdict_text g machine.Verdict.Rejected n ps = codes "reject " ++ decimal n
verdict_text g machine.Verdict.Unfinished n ps = codes "unfinished " ++ decimal n
verdict_text g machine.Verdict.Stuck n ps = codes ""

-- the text of how a run came out
abbrev pub run_text : Grammar → Answer → List ℕ
run_text g a = verdict_text g a.verdict a.steps a.reductions

-- the word that is unknown is told, and otherwise this text
abbrev pub unless_unknown : Option (List ℕ) → List ℕ → List ℕ
unless_unknown None text = text
unless_unknown (Some w) text = codes "unknown " ++ w

-- the answer to a line of these words: how at most `n` steps on the tokens of the words come out
abbrev pub words_answer : Grammar → Table → ℕ → List (List ℕ) → List ℕ
words_answer g b n ws =
    unless_unknown (first_unknown g ws) (run_text g (run g b n (tokens_of g ws)))

-- the answer to a line
abbrev pub line_answer : Grammar → Table → ℕ → List ℕ → List ℕ
line_answer g b n line = words_answer g b n (words line)
