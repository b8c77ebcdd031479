use Rattle.std.proofs.Common.{map, take}
use Rattle.lrgrammar.specs.StoredParts.{part_production_of}
use Rattle.lryacc.specs.UsefulRules.{HasProductive}
use Rattle.lryacc.proofs.useful.Search.lacking.Given as goal

abbrev pub invariant-loop-prod : goal.invariant-loop-prod
invariant-loop-prod l =
    HasProductive l.self.found.items (map part_production_of (take l.prod-index l.parts.prods.items))
