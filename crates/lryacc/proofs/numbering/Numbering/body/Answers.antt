use Rattle.std.proofs.Common.{◌<◌, ◌∙◌, ◌∷◌, ◌++◌, List, [], ap, length, map, arith, subst, sym}
use Rattle.std.proofs.lemmas.List.{take_all, take_more}
use Rattle.lrgrammar.specs.declared.grammar.PartSymbol.{PartSymbol}
use Rattle.lryacc.specs.declared.contents.BodyPart.{BodyPart}
use Rattle.lryacc.specs.declared.places.Span.{Span}
use Rattle.lryacc.specs.BodyProductions.{AreRelated, IsOfPart}
use Rattle.lryacc.specs.BodyProductions.AreRelated.{none}
use Rattle.lryacc.specs.Numbered.{names_of}
use Rattle.lryacc.specs.ProductionPlaces.{part_place}
use Rattle.lryacc.proofs.ProductionsAdded.{image-more, related-more}
use Rattle.lryacc.proofs.numbering.Numbering.body.Goals as goal

pub loop-part-init : goal.loop-part-init
loop-part-init c = record {
  symbols = subst (λ (ys : List PartSymbol). AreRelated (IsOfPart (names_of c.args.self.now)) [] ys) (sym c.new-body.ensures.symbols) none;
  places = c.new-body.ensures.places;
}

pub loop-part-preserved : goal.loop-part-preserved
loop-part-preserved c =
    let below : c.loop-part.part-index < length c.with_symbols-part-items.result.now = omega arith in
    let more = take_more c.with_symbols-part-items.result.now c.loop-part.part-index _ below in
    record {
      symbols = related-more (IsOfPart (names_of c.args.self.now)) _ _ _ _ _ _ more c.in_ok-add.ensures.symbols c.loop-part.invariant.symbols c.in_ok-symbol_of.ensures;
      places = image-more part_place _ _ _ _ _ more (c.in_ok-add.ensures.places ∙ ap (λ (p : Span). c.loop-part.body.places.items ++ p ∷ []) c.span.ensures) c.loop-part.invariant.places;
    }

pub returns-clause-symbols : goal.returns-clause-symbols
returns-clause-symbols c =
    subst (λ (xs : List BodyPart). AreRelated (IsOfPart (names_of c.args.self.now)) xs c.loop-part.body.symbols.items)
    (take_all _ _ c.loop-part-test.false ∙ c.with_symbols-part-items.ensures) c.loop-part.invariant.symbols

pub returns-clause-places : goal.returns-clause-places
returns-clause-places c = c.loop-part.invariant.places ∙ ap (map part_place) (take_all _ _ c.loop-part-test.false ∙ c.with_symbols-part-items.ensures)
