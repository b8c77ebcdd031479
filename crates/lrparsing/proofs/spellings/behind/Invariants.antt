use Rattle.std.proofs.Common.{◌≡◌, ◌≤◌, drop, length, map}
use Rattle.lrspec.specs.texts.Lines.{words}
use Rattle.lrparsing.specs.Lines.{behind}
use Rattle.lrparsing.proofs.spellings.behind.Given as goal

abbrev pub invariant-loop-word : goal.invariant-loop-word
invariant-loop-word l =
    record {
      rest : behind (words l.name) (drop l.at (map (λ w. w.now) l.words)) ≡ behind l.word-iterator (drop l.next (map (λ w. w.now) l.words));
      after : l.at ≤ l.next;
      within : l.next ≤ length l.words;
    }
