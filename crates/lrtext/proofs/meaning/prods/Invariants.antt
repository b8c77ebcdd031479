use Rattle.std.proofs.Common.{◌≡◌, map, take}
use Rattle.lrspec.specs.texts.Meaning.{production_in}
use Rattle.lrtext.specs.StoredParts.{part_production_of}
use Rattle.lrtext.specs.StoredContents.{alternative_of}
use Rattle.lrtext.proofs.meaning.prods.Given as goal

abbrev pub invariant-loop-alternative : goal.invariant-loop-alternative
invariant-loop-alternative l = map part_production_of l.prods.items ≡ map (production_in l.rules l.tokens) (map alternative_of (take l.alternative-index l.alternatives))
