use Rattle.std.proofs.Common.{◌≡◌, map, take}
use Rattle.lryacc.specs.BodyProductions.{AreRelated, IsOfPart}
use Rattle.lryacc.specs.Numbered.{names_of}
use Rattle.lryacc.specs.ProductionPlaces.{part_place}
use Rattle.lryacc.proofs.numbering.Numbering.body.Given as goal

abbrev pub invariant-loop-part : goal.invariant-loop-part
invariant-loop-part l = record {
  symbols : AreRelated (IsOfPart (names_of l.self)) (take l.part-index l.part-items) l.body.symbols.items;
  places : l.body.places.items ≡ map part_place (take l.part-index l.part-items);
}
