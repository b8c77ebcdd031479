-- how a conclusion is told
use Rattle.std.specs.Prelude.{◌≡◌, ⊤, ℕ, ◌&&◌, not, Bool, true, false, List, ◌++◌, Option, None, codes, is_some, nat_lt}
use Rattle.lrdiagnostics.specs.ShownTexts.{shown_text}
use Rattle.lrshown.specs.VerdictWords.{verdict_words}
use Rattle.lrreport.specs.declared.options.Options.{Options}
use Rattle.lrreport.specs.declared.options.Output.{Output}
use Rattle.lrreport.specs.declared.options.Output.TheVariants.{Report, Summary, Json, States}
use Rattle.lrreport.specs.declared.reports.Conclusion.{Conclusion}
use Rattle.lrreport.specs.JsonHeads.{BeginsWith, json_head}

-- how what precedences resolve is shown is told in a report that does not show it
abbrev pub is_report : Output → Bool
is_report Report = true
is_report output = false

abbrev pub has_hint : Options → Bool
has_hint options = is_report options.output && not options.detail.resolved

-- the words of what is concluded
abbrev pub words_of : Options → Conclusion → List ℕ
words_of options c =
    verdict_words c.verdict c.is_unambiguous c.evidence.items (nat_lt 0 options.steps) c.resolved
    (has_hint options) c.exactness (is_some c.decided)

-- the line of a file of that name
abbrev pub line_of : List ℕ → List ℕ → List ℕ
line_of name words = name ++ (codes ": " ++ words)

-- the same as it is shown, by which lines end
abbrev pub last_line : List ℕ → List ℕ → List ℕ
last_line name words = shown_text (line_of name words) ++ codes "\n"

-- the last line of a text
pub record EndsIn (line text : List ℕ) : Type 0 where
  pub front : List ℕ
  pub is : text ≡ front ++ line

-- how a conclusion is told of a file of that name: a summary is its line, and a report, or what stands behind states, ends in that
-- where lines are not folded; and JSON begins with it
abbrev pub Tells : Output → Option ℕ → List ℕ → List ℕ → List ℕ → Type 0
Tells Summary columns line head text = text ≡ line
Tells Report None line head text = EndsIn line text
Tells States None line head text = EndsIn line text
Tells (Json grammar) columns line head text = BeginsWith head text
Tells output columns line head text = ⊤

abbrev pub TellsConclusion : Options → List ℕ → Conclusion → List ℕ → Type 0
TellsConclusion options name c text =
    Tells options.output options.lines.columns (last_line name (words_of options c))
    (json_head name c) text
