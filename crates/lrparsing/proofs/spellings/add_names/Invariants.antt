use Rattle.std.proofs.Common.{◌≡◌, ◌++◌, map}
use Rattle.lrparsing.specs.declared.spellings.Way.TheVariants.{Name}
use Rattle.lrparsing.specs.Lines.{HasMore, named_tokens, spelled}
use Rattle.lrparsing.proofs.spellings.add_names.Given as goal

abbrev pub invariant-loop-token : goal.invariant-loop-token
invariant-loop-token l =
    record {
      names : l.way ≡ Name → map spelled l.spellings.items ≡ map spelled l.initial.spellings.items ++ named_tokens l.file l.token;
      more : HasMore l.count (map spelled l.initial.spellings.items) (map spelled l.spellings.items);
    }
