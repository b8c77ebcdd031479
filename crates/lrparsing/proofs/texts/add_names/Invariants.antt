use Rattle.std.proofs.Common.{◌+◌, map, take}
use Rattle.lrwriter.specs.Texts.{Adds}
use Rattle.lrparsing.specs.AnswerTexts.{shown_names}
use Rattle.lrparsing.proofs.texts.add_names.Given as goal

abbrev pub invariant-loop-name : goal.invariant-loop-name
invariant-loop-name l = Adds l.fn.text l.text (shown_names l.between (map (λ n. n.now) (take (l.name-index + 1) l.names)))
