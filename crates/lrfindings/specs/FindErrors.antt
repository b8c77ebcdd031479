-- why nothing is found in a file
use Rattle.std.specs.Prelude.{ℕ, ◌<◌, ◌⊎◌, Bool}
use Rattle.lrspec.specs.grammars.Grammar.{Grammar}
use Rattle.lrspec.specs.texts.Parts.{IsRefusal}
use Rattle.lrspec.specs.merging.Chains.{HasCauseOfSize}
use Rattle.lrspec.specs.tables.Conflicts.{IsAcceptContested}
use Rattle.lrgraphs.specs.declared.errors.BuildError.{BuildError}
use Rattle.lrgraphs.specs.declared.errors.BuildError.TheVariants as build
use Rattle.lrparts.specs.declared.errors.GrammarError.{GrammarError}
use Rattle.lrparts.specs.declared.errors.GrammarError.TheVariants as error
use Rattle.lrparts.specs.Refusals.{IsRefusedBy}
use Rattle.lryacc.specs.declared.numbering.FileGrammar.{FileGrammar}
use Rattle.lrfindings.specs.FileGrammars.{IsGrammarOfFile, parts_in_force}
use Rattle.lrfindings.specs.declared.findings.FindError.{FindError}
use Rattle.lrfindings.specs.declared.findings.FindError.TheVariants.{TooLarge, Refused, NoTable, Memory}

-- the error that tells why parts are refused: the first four causes are those of size
abbrev pub parts_error : GrammarError → FindError
parts_error error.TooManyRules = TooLarge
parts_error error.TooManyTokens = TooLarge
parts_error error.TooManyProductions = TooLarge
parts_error error.BodyTooLong = TooLarge
parts_error error.Memory = Memory
parts_error e = Refused e

-- the error that tells why there is no graph with a table
abbrev pub build_error : BuildError ℕ → FindError
build_error (build.Table e) = NoTable
build_error build.TooLarge = TooLarge
build_error build.Memory = Memory

-- why nothing is found in a file, with its precedences or without them: its parts, or its graph, are too large for indices up
-- to the greatest; its parts are refused; or accepting is contested, so that there is no table
abbrev pub IsNothingFound : ℕ → FileGrammar → Bool → FindError → Type 0
IsNothingFound max file b TooLarge =
    ((n : ℕ) × (n < 5) × IsRefusal max (parts_in_force file b) n)
    ⊎ ((g : Grammar) × IsGrammarOfFile max file b g × HasCauseOfSize g max)
IsNothingFound max file b (Refused e) = IsRefusedBy max (parts_in_force file b) e
IsNothingFound max file b NoTable =
    (g : Grammar) × (p : ℕ) × IsGrammarOfFile max file b g × IsAcceptContested g p
IsNothingFound max file b Memory = Unit {0}
