-- what a line comes to: a tree of its tokens for the start rule, or where the machine rejects them
use Rattle.std.specs.Prelude.{◌≡◌, ℕ, ◌+◌, ◌-◌, List, [], ◌++◌, length, take, drop, slice_get, Option, option_map}
use Rattle.lrspec.specs.grammars.Grammar.{Grammar, end_token}
use Rattle.lrspec.specs.grammars.Trees.{IsSentence}
use Rattle.lrspec.specs.tables.Machine as machine
use Rattle.lrspec.specs.tables.Recognition as recognition
use Rattle.lrspec.specs.texts.Lines.{words}
use Rattle.lrconflicts.specs.Moves.{moves_of}
use Rattle.lryacc.specs.declared.numbering.FileGrammar.{FileGrammar}
use Rattle.lrshown.specs.declared.steps.Step.{Step}
use Rattle.lrshown.specs.declared.chains.ShownTree.{ShownTree}
use Rattle.lrshown.specs.Steps.{moves_by}
use Rattle.lrshown.specs.ShownTrees.{IsWhole}
use Rattle.lrparsing.specs.declared.answers.Answer.{Answer}
use Rattle.lrparsing.specs.declared.answers.Answer.TheVariants.{Sentence, Rejected, Unfinished, Unknown}
use Rattle.lrparsing.specs.declared.answers.Refused.{Refused}
use Rattle.lrparsing.specs.declared.answers.Rejection.{Rejection}
use Rattle.lrparsing.specs.declared.parsers.Parser.{Parser}
use Rattle.lrparsing.specs.Machines.{numbers, run_by}
use Rattle.lrparsing.specs.Expected.{AreShiftedBehind, BeginSentences}
use Rattle.lrparsing.specs.Lines.{AreNames, IsUnknown}

-- the text of a line of these tokens: those of the parser stand before and behind them
abbrev pub text_of_line : Parser → List ℕ → List ℕ
text_of_line p ts = numbers p.front.items ++ ts ++ numbers p.behind.items

-- how the machine of the parser comes out on it
abbrev pub run_on : Parser → List ℕ → machine.Answer
run_on p ts = run_by p.machine (text_of_line p ts)

-- how many tokens of the text it takes
abbrev pub shifted_on : Parser → List ℕ → ℕ
shifted_on p ts = recognition.shifted (run_on p ts)

-- a token behind so many others, by its place, counted from 1
abbrev pub refused_behind : ℕ → ℕ → Refused
refused_behind n t = record { place = n + 1; token = t }

-- that of a line, if it has one there
abbrev pub refused_at : List ℕ → ℕ → Option Refused
refused_at ts n = option_map (refused_behind n) (slice_get ts n)

-- the text is a sentence, and the tree that is told is that of it, drawn without what stands around the tokens of the line: so many
-- steps stand before these
pub record IsSentenceTold (g : Grammar) (file : FileGrammar) (text : List ℕ) (before : ℕ) (t : ShownTree) : Type 0 where
  pub sentence : IsSentence g text
  pub steps : List Step
  pub moves : moves_by steps ≡ moves_of sentence.tree
  pub drawn : IsWhole file [] (drop before steps) t

-- what the machine takes of the text before it stops
abbrev pub taken_on : Parser → List ℕ → List ℕ
taken_on p ts = take (shifted_on p ts) (text_of_line p ts)

-- the machine rejects the text of a line of these tokens, at the one that is told, where those could stand that are told: with each
-- of them behind it what was taken begins a sentence, where all rules have trees
pub record IsRejectionTold (p : Parser) (ts : List ℕ) (r : Rejection) : Type 0 where
  pub rejects : (run_on p ts).verdict ≡ machine.Rejected
  pub refused : r.refused ≡ refused_at ts (shifted_on p ts - length p.front.items)
  pub expected : AreShiftedBehind p.machine (taken_on p ts) (end_token p.machine.grammar) r.expected.items
  pub begin : BeginSentences p.machine.grammar (taken_on p ts) r.expected.items

-- what a line of these tokens comes to
abbrev pub IsAnswer : Parser → List ℕ → Answer → Type 0
IsAnswer p ts (Sentence t) = IsSentenceTold p.machine.grammar p.file (text_of_line p ts) (length p.front.items) t
IsAnswer p ts (Rejected r) = IsRejectionTold p ts r
IsAnswer p ts Unfinished = (run_on p ts).verdict ≡ machine.Unfinished
IsAnswer p ts (Unknown w) = ⊥

-- the words of a line name tokens, and this is what these come to
pub record HasTokens (p : Parser) (line : List ℕ) (a : Answer) : Type 0 where
  pub tokens : List ℕ
  pub names : AreNames p.spellings.items (words line) tokens
  pub answer : IsAnswer p tokens a

-- what a line comes to: what its tokens do, or its first word that names none
abbrev pub IsAnswerTo : Parser → List ℕ → Answer → Type 0
IsAnswerTo p line (Sentence t) = HasTokens p line (Sentence t)
IsAnswerTo p line (Rejected r) = HasTokens p line (Rejected r)
IsAnswerTo p line Unfinished = HasTokens p line Unfinished
IsAnswerTo p line (Unknown w) = IsUnknown p.spellings.items (words line) w.now
