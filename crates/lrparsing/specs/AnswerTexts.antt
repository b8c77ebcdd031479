-- what is told of a line
use Rattle.std.specs.Prelude.{ℕ, Bool, List, [], ◌∷◌, ◌++◌, map, codes, Option, Some, None}
use Rattle.std.specs.List.{flat_map}
use Rattle.std.specs.Fmt.{decimal}
use Rattle.std.specs.Str.{IsUtf8}
use Rattle.lrwriter.specs.Texts.{Adds, Held}
use Rattle.lryacc.specs.declared.numbering.FileGrammar.{FileGrammar}
use Rattle.lrdiagnostics.specs.ShownTexts.{shown_text}
use Rattle.lrshown.specs.BracketTexts.{row_words, token_text}
use Rattle.lrshown.specs.DrawnTrees.{Row}
use Rattle.lrshown.specs.StoredTrees.{IsDrawn}
use Rattle.lrparsing.specs.declared.answers.Answer.{Answer}
use Rattle.lrparsing.specs.declared.answers.Answer.TheVariants.{Sentence, Rejected, Unfinished, Unknown}
use Rattle.lrparsing.specs.declared.answers.Refused.{Refused}
use Rattle.lrparsing.specs.declared.answers.Rejection.{Rejection}
use Rattle.lrparsing.specs.declared.parsers.Parser.{Parser}

-- texts one behind the other, with another one between them
abbrev pub joined : List ℕ → List (List ℕ) → List ℕ
joined between [] = []
joined between (t ∷ ts) = t ++ flat_map (λ u. between ++ u) ts

-- names as they are shown, with a text between them
abbrev pub shown_names : List ℕ → List (List ℕ) → List ℕ
shown_names between names = joined between (map shown_text names)

-- the words of trees in brackets, which are whole
abbrev pub whole_words : FileGrammar → List Bool → Row → List (List ℕ)
whole_words file cuts ts = map (λ w. w.bytes) (row_words file [] cuts 0 ts)

-- at which token of a line it is rejected, or that it is at its end
abbrev pub place_text : FileGrammar → Option Refused → List ℕ
place_text file None = codes "rejected at its end"
place_text file (Some r) = (codes "rejected at token " ++ decimal r.place ++ codes ", ") ++ shown_text (token_text file r.token)

-- which tokens could stand there
abbrev pub expected_text : FileGrammar → List ℕ → List ℕ
expected_text file [] = codes "nothing"
expected_text file (t ∷ ts) = shown_names (codes ", ") (map (token_text file) (t ∷ ts))

-- where a line is rejected
abbrev pub rejection_text : FileGrammar → Rejection → List ℕ
rejection_text file r = place_text file r.refused ++ codes "; expected: " ++ expected_text file r.expected.items

-- that a word names no token; one that is no UTF-8 isn't told
pub record TellsUnknown (w : List ℕ) (old new : Held) : Type 0 where
  pub name : IsUtf8 w → Adds old new (codes "there is no token " ++ shown_text w ++ 10 ∷ [])
  pub no_name : ¬ (IsUtf8 w) → Adds old new (codes "there is no token " ++ codes "of a name that is no UTF-8\n")

-- what is told of a line by its answer: a sentence by its tree in brackets
abbrev pub TellsAnswer : Parser → Answer → Held → Held → Type 0
TellsAnswer p (Sentence t) old new =
    (ts : Row) → IsDrawn t.tree ts → Adds old new (shown_names (codes " ") (whole_words p.file t.cuts.items ts) ++ 10 ∷ [])
TellsAnswer p (Rejected r) old new = Adds old new (rejection_text p.file r ++ 10 ∷ [])
TellsAnswer p Unfinished old new = Adds old new (codes "not ended in " ++ decimal p.machine.steps ++ codes " steps\n")
TellsAnswer p (Unknown w) old new = TellsUnknown w.now old new
