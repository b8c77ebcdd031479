use Rattle.std.proofs.Common.{◌≡◌, map, flat_map, take}
use Rattle.std.specs.List.{enumerate_from}
use Rattle.lrspec.specs.texts.Meaning.{names_at_level}
use Rattle.lrtext.specs.StoredContents.{kind_line_of}
use Rattle.lrtext.specs.StoredLevels.{leveled_of}
use Rattle.lrtext.proofs.meaning.precedences.levels.Given as goal

abbrev pub invariant-loop-level : goal.invariant-loop-level
invariant-loop-level l = map leveled_of l.leveled.items ≡ flat_map names_at_level (enumerate_from 0 (map kind_line_of (take l.level l.line-items)))
