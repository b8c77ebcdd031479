use Rattle.std.proofs.Common.{◌∙◌, ap, map, filter_map, slice_get}
use Rattle.lrspec.specs.texts.Meaning.{unknown_in_body}
use Rattle.lrtext.specs.StoredContents.{name_text_of, body_of}
use Rattle.lrtext.proofs.BodySteps.{first_piece, no_piece}
use Rattle.lrtext.proofs.meaning.unknown.first_in_bodies.Goals as goal

-- the first body with an unknown name
pub returns-in-Some : goal.returns-in-Some
returns-in-Some c =
    let h = unknown_in_body c.args.rules.now c.args.declared.now in
    let same = ap (map name_text_of) c.as_slice.ensures.value ∙ ap body_of c.alternative-item.is in
    first_piece h body_of c.args.alternatives.now c.loop-alternative.alternative-index c.alternative-item.result c.loop-alternative-test.true c.in-Some.unknown.now c.loop-alternative.invariant (c.in-Some.ensures ∙ ap (λ ns. slice_get (filter_map h ns) 0) same)

-- one more body without one
pub loop-alternative-preserved : goal.loop-alternative-preserved
loop-alternative-preserved c =
    let h = unknown_in_body c.args.rules.now c.args.declared.now in
    let same = ap (map name_text_of) c.as_slice.ensures.value ∙ ap body_of c.alternative-item.is in
    no_piece h body_of c.args.alternatives.now c.loop-alternative.alternative-index c.alternative-item.result c.loop-alternative-test.true c.loop-alternative.invariant (c.in_default.ensures ∙ ap (λ ns. slice_get (filter_map h ns) 0) same)
