use Rattle.std.proofs.Common.{◌≡◌, drop, map}
use Rattle.lrparsing.specs.Lines.{first_named}
use Rattle.lrparsing.proofs.spellings.named.Given as goal

abbrev pub invariant-loop-spelling : goal.invariant-loop-spelling
invariant-loop-spelling l =
    first_named l.spellings (drop l.at (map (λ w. w.now) l.words))
    ≡ first_named (drop l.spelling-index l.spellings) (drop l.at (map (λ w. w.now) l.words))
