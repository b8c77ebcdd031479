-- what is added so far stands for a text
use Rattle.std.proofs.Common.{ℕ, List}
use Rattle.lrwriter.specs.Texts.{Adds}
use Rattle.lrdiagnostics.specs.Escapes.{escaped}
use Rattle.lrdiagnostics.proofs.escapes.add_escaped_name.Given as goal

abbrev pub invariant-loop-character : goal.invariant-loop-character
invariant-loop-character l = (text : List ℕ) × Adds l.initial.page l.page (escaped text)
