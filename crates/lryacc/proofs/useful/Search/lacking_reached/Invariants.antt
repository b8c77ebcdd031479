use Rattle.std.proofs.Common.{All, IsTrue, map, take}
use Rattle.lrgrammar.specs.StoredParts.{part_production_of}
use Rattle.lryacc.specs.UsefulRules.{has_all, is_useful}
use Rattle.lryacc.proofs.useful.Search.lacking_reached.Given as goal

abbrev pub invariant-loop-prod : goal.invariant-loop-prod
invariant-loop-prod l =
    All (λ production. IsTrue (is_useful l.productive.found.items l.self.found.items production)
    → IsTrue (has_all l.self.found.items production.body))
    (map part_production_of (take l.prod-index l.parts.prods.items))
