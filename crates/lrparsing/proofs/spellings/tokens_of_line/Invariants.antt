use Rattle.std.proofs.Common.{◌-◌, ◌≤◌, drop, length, map}
use Rattle.lrspec.specs.grammars.Grammar.{Grammar}
use Rattle.lrspec.specs.tables.Recognition.{AreNamed}
use Rattle.lrspec.specs.texts.Lines.{words}
use Rattle.lrparsing.specs.Machines.{numbers}
use Rattle.lrparsing.specs.Lines.{AreSpelled, NameUpTo}
use Rattle.lrparsing.proofs.spellings.tokens_of_line.Given as goal

abbrev pub invariant-loop-at : goal.invariant-loop-at
invariant-loop-at l =
    record {
      names : NameUpTo l.spellings (words l.line) (numbers l.tokens.items) (drop l.at (map (λ w. w.now) l.words.items));
      within : l.at ≤ length l.words.items;
      named : (g : Grammar) → AreSpelled g l.spellings → AreNamed g (numbers l.tokens.items);
    }

abbrev pub decreases-loop-at : goal.decreases-loop-at
decreases-loop-at l = length l.words.items - l.at
