use Rattle.std.proofs.Common.{map, take}
use Rattle.lryacc.specs.BodyProductions.{AddsProductions, AreRelated, IsOfStart, is_one}
use Rattle.lryacc.specs.Numbered.{names_of}
use Rattle.lryacc.specs.ProductionPlaces.{Adds}
use Rattle.lryacc.proofs.numbering.Numbering.add_starts.Given as goal

abbrev pub invariant-loop-at : goal.invariant-loop-at
invariant-loop-at l =
    record {
      places : Adds l.initial.productions l.productions (map (λ start. start.span) (take l.at l.starts));
      added : AddsProductions l.initial.productions l.productions
          (AreRelated (IsOfStart (names_of l.self) (is_one l.starts)) (take l.at l.starts));
    }
