use Rattle.std.proofs.Common.{◌<◌, ◌∙◌, ◌++◌, ◌∷◌, [], List, length, take, ap, sym, arith, subst}
use Rattle.std.proofs.lemmas.List.{take_all, take_more}
use Rattle.std.proofs.Common.{flat_map}
use Rattle.lryacc.specs.declared.contents.Alternative.{Alternative}
use Rattle.lryacc.specs.BodyProductions.{AddsProductions, AreOfBodies, AreOfBody}
use Rattle.lryacc.specs.BodyProductions.AreMade.{none}
use Rattle.lryacc.specs.ProductionPlaces.{Adds, body_places}
use Rattle.lryacc.specs.Numbered.{names_of}
use Rattle.lryacc.proofs.ProductionsAdded.{made-added, no-place, none_added, places-made}
use Rattle.lryacc.proofs.numbering.Numbering.add_alternatives.Goals as goal

pub loop-alternative-init : goal.loop-alternative-init
loop-alternative-init c = record {
  places = no-place c.args.productions.now;
  added = none_added _ c.args.productions.now none;
}

pub loop-alternative-preserved : goal.loop-alternative-preserved
loop-alternative-preserved c =
    let below : c.loop-alternative.alternative-index < length c.args.alternatives.now = omega arith in
    let more = take_more c.args.alternatives.now c.loop-alternative.alternative-index c.alternative-item.result below ∙ ap (λ (x : Alternative). take c.loop-alternative.alternative-index c.args.alternatives.now ++ x ∷ []) (sym c.alternative-item.is) in
    record {
      places = places-made body_places _ _ _ _ _ c.alternative-item.result more c.loop-alternative.invariant.places c.in_ok-add_alternative.ensures.places;
      added = made-added (AreOfBody (names_of c.args.self.now)) _ _ _ _ _ c.alternative-item.result more c.loop-alternative.invariant.added c.in_ok-add_alternative.ensures.added;
    }

pub returns-clause-places : goal.returns-clause-places
returns-clause-places c =
    subst (λ (xs : List Alternative). Adds c.args.productions.now c.loop-alternative.productions (flat_map body_places xs)) (take_all _ _ c.loop-alternative-test.false) c.loop-alternative.invariant.places

pub returns-clause-added : goal.returns-clause-added
returns-clause-added c =
    subst (λ (xs : List Alternative). AddsProductions c.args.productions.now c.loop-alternative.productions (AreOfBodies (names_of c.args.self.now) xs)) (take_all _ _ c.loop-alternative-test.false) c.loop-alternative.invariant.added
