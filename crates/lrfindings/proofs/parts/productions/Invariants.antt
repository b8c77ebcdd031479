use Rattle.std.proofs.Common.{◌≡◌, map, take}
use Rattle.lrtext.specs.StoredParts.{part_production_of}
use Rattle.lrfindings.proofs.parts.productions.Given as goal

abbrev pub invariant-loop-prod : goal.invariant-loop-prod
invariant-loop-prod l = map part_production_of l.productions.items ≡ map part_production_of (take l.prod-index l.parts)
