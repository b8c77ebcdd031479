use Rattle.std.proofs.Common.{◌≡◌, map, take}
use Rattle.lrspec.specs.texts.Parts.{shifted_production}
use Rattle.lrtext.specs.StoredParts.{part_production_of}
use Rattle.lrgrammar.specs.StoredGrammar.{production_of}
use Rattle.lrgrammar.proofs.grammar.make.productions.Given as goal

abbrev pub invariant-loop-prod : goal.invariant-loop-prod
invariant-loop-prod g l =
    map (production_of g.T.IndexStorage.number) l.prods.items ≡ map shifted_production (map part_production_of (take l.prod-index l.parts.prods.items))
