use Rattle.std.proofs.Common.{◌≡◌, ◌++◌, map}
use Rattle.lrspec.specs.texts.Lines.{words}
use Rattle.lrparsing.proofs.spellings.words_of.Given as goal

abbrev pub invariant-loop-word : goal.invariant-loop-word
invariant-loop-word l = words l.line ≡ map (λ w. w.now) l.list.items ++ l.word-iterator
