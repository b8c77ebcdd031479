use Rattle.std.proofs.Common.{map}
use Rattle.std.specs.Prelude.{encode_utf8_all}
use Rattle.lrwriter.specs.Texts.{Adds}
use Rattle.lrdiagnostics.specs.ShownTexts.{shown_character}
use Rattle.lrdiagnostics.proofs.lines.add_shown.Given as goal

abbrev pub invariant-loop-character : goal.invariant-loop-character
invariant-loop-character l = Adds l.initial.text l.text (encode_utf8_all (map shown_character l.yielded))
