use lib.Utf8.{encodes}
use Rattle.lrwriter.specs.Texts.{Adds}
use Rattle.lrdiagnostics.specs.Escapes.{escaped}
use Rattle.lrdiagnostics.proofs.escapes.add_escaped.Given as goal

abbrev pub invariant-loop-character : goal.invariant-loop-character
invariant-loop-character l = Adds l.initial.page l.page (escaped (encodes l.yielded))
