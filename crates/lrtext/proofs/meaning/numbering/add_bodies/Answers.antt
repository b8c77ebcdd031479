use Rattle.std.proofs.Common.{◌∙◌, ap, sym, filter_map, flat_map, map, take, get_or}
use Rattle.std.proofs.lemmas.List.{take_all}
use Rattle.std.proofs.lemmas.List.Sums.{fold-append}
use Rattle.lrtext.specs.NumberedNames.{with_name, with_names}
use Rattle.lrspec.specs.texts.Meaning.{token_in_body}
use Rattle.lrtext.specs.StoredContents.{body_of, name_text_of}
use Rattle.lrtext.proofs.BodySteps.{pieces_more}
use Rattle.lrtext.proofs.meaning.numbering.add_bodies.Goals as goal

-- one more body
pub loop-alternative-preserved : goal.loop-alternative-preserved
loop-alternative-preserved c =
    let h = token_in_body c.args.rules.now in
    let items = c.args.alternatives.now in
    let i = c.loop-alternative.alternative-index in
    let x = c.alternative-item.result in
    let same = ap (map name_text_of) c.as_slice.ensures.value ∙ ap body_of c.alternative-item.is in
    c.in_ok-add_body.ensures
    ∙ ap (λ ns. with_names c.loop-alternative.tokens (filter_map h ns)) same
    ∙ ap (λ ws. with_names ws (filter_map h (body_of (get_or items i x)))) c.loop-alternative.invariant
    ∙ sym (fold-append with_name c.args.tokens.now (filter_map h (flat_map body_of (take i items))) (filter_map h (body_of (get_or items i x))))
    ∙ ap (with_names c.args.tokens.now) (sym (pieces_more h body_of items i x c.loop-alternative-test.true))

-- all bodies were gone along
pub returns : goal.returns
returns c = c.loop-alternative.invariant ∙ ap (λ xs. with_names c.args.tokens.now (filter_map (token_in_body c.args.rules.now) (flat_map body_of xs))) (take_all c.loop-alternative.alternative-index c.args.alternatives.now c.loop-alternative-test.false)
