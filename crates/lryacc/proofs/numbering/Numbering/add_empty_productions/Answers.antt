use Rattle.std.proofs.Common.{◌<◌, ◌∙◌, List, length, arith, subst}
use Rattle.std.proofs.lemmas.List.{take_all, take_more}
use Rattle.lryacc.specs.declared.contents.BodyPart.{BodyPart}
use Rattle.lryacc.specs.BodyProductions.{AddsProductions, AreOfActions, IsOfPartBefore}
use Rattle.lryacc.specs.BodyProductions.AreMade.{none}
use Rattle.lryacc.specs.ProductionPlaces.{Adds, action_place, action_places}
use Rattle.lryacc.specs.Numbered.{names_of}
use Rattle.lryacc.proofs.ProductionsAdded.{made-added, no-place, none_added, places-made}
use Rattle.lryacc.proofs.numbering.Numbering.add_empty_productions.Goals as goal

pub loop-part-init : goal.loop-part-init
loop-part-init c = record {
  places = no-place c.args.productions.now;
  added = none_added _ c.args.productions.now none;
}

pub loop-part-preserved : goal.loop-part-preserved
loop-part-preserved c =
    let below : c.loop-part.part-index < length c.before_last-part-items.result.now = omega arith in
    record {
      places = places-made (action_place) _ _ _ _ _ _ (take_more c.before_last-part-items.result.now c.loop-part.part-index _ below) c.loop-part.invariant.places c.in_ok-add_part.ensures.places;
      added = made-added (IsOfPartBefore (names_of c.args.self.now)) _ _ _ _ _ _ (take_more c.before_last-part-items.result.now c.loop-part.part-index _ below) c.loop-part.invariant.added c.in_ok-add_part.ensures.added;
    }

pub returns-clause-places : goal.returns-clause-places
returns-clause-places c =
    subst (λ (xs : List BodyPart). Adds c.args.productions.now c.loop-part.productions (action_places xs)) (take_all _ _ c.loop-part-test.false ∙ c.before_last-part-items.ensures) c.loop-part.invariant.places

pub returns-clause-added : goal.returns-clause-added
returns-clause-added c =
    subst (λ (xs : List BodyPart). AddsProductions c.args.productions.now c.loop-part.productions (AreOfActions (names_of c.args.self.now) xs)) (take_all _ _ c.loop-part-test.false ∙ c.before_last-part-items.ensures) c.loop-part.invariant.added
