use Rattle.std.proofs.Common.{flat_map, take}
use Rattle.lryacc.specs.BodyProductions.{AddsProductions, AreOfBodies}
use Rattle.lryacc.specs.Numbered.{names_of}
use Rattle.lryacc.specs.ProductionPlaces.{Adds, body_places}
use Rattle.lryacc.proofs.numbering.Numbering.add_alternatives.Given as goal

abbrev pub invariant-loop-alternative : goal.invariant-loop-alternative
invariant-loop-alternative l =
    record {
      places : Adds l.initial.productions l.productions (flat_map body_places (take l.alternative-index l.alternatives));
      added : AddsProductions l.initial.productions l.productions
          (AreOfBodies (names_of l.self) (take l.alternative-index l.alternatives));
    }
