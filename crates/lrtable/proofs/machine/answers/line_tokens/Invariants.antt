use Rattle.std.proofs.Common.{◌≡◌, ◌++◌}
use Rattle.lrspec.specs.texts.Lines.{words}
use Rattle.lrspec.specs.texts.MachineLines.{tokens_of, first_unknown}
use Rattle.lrtable.specs.RunAnswers.{text_of}
use Rattle.lrtable.proofs.machine.answers.line_tokens.Given as goal

abbrev pub invariant-loop-word : goal.invariant-loop-word
invariant-loop-word g l =
    record {
      unknown : first_unknown l.grm (words l.line) ≡ first_unknown l.grm l.word-iterator;
      tokens : tokens_of l.grm (words l.line) ≡ text_of g.T.IndexStorage.number l.tokens.items ++ tokens_of l.grm l.word-iterator;
    }
