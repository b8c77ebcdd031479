use Rattle.std.proofs.Common.{take}
use Rattle.lryacc.specs.BodyProductions.{AddsProductions, AreOfActions}
use Rattle.lryacc.specs.Numbered.{names_of}
use Rattle.lryacc.specs.ProductionPlaces.{Adds, action_places}
use Rattle.lryacc.proofs.numbering.Numbering.add_empty_productions.Given as goal

abbrev pub invariant-loop-part : goal.invariant-loop-part
invariant-loop-part l =
    record {
      places : Adds l.initial.productions l.productions (action_places (take l.part-index l.part-items));
      added : AddsProductions l.initial.productions l.productions
          (AreOfActions (names_of l.self) (take l.part-index l.part-items));
    }
