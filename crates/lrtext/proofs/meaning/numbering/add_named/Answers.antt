use Rattle.std.proofs.Common.{◌∙◌, ap, sym, filter_map, map, take}
use Rattle.std.proofs.lemmas.List.{take_all}
use Rattle.std.proofs.lemmas.List.Sums.{fold_push}
use Rattle.lrtext.specs.NumberedNames.{with_name, with_names}
use Rattle.lrspec.specs.texts.Meaning.{named_precedence}
use Rattle.lrtext.specs.StoredContents.{alternative_of}
use Rattle.lrtext.proofs.BodySteps.{kept_more, kept_same}
use Rattle.lrtext.proofs.meaning.numbering.add_named.Goals as goal
use Rattle.lrtext.proofs.meaning.numbering.add_named.Goals.{in-Some+in_ok-add, in_default}

-- one more alternative, which names a token or doesn't
pub loop-alternative-preserved : goal.loop-alternative-preserved
loop-alternative-preserved c =
    let items = c.args.alternatives.now in
    let i = c.loop-alternative.alternative-index in
    let x = c.alternative-item.result in
    let so_far = filter_map named_precedence (map alternative_of (take i items)) in
    let here = ap (λ a. named_precedence (alternative_of a)) c.alternative-item.is in
    elim c.match-named.branch [
      | in-Some+in_ok-add w ↦
          w.tokens-is
          ∙ w.in_ok-add.ensures
          ∙ ap (λ ws. with_name ws w.in-Some.token.now) c.loop-alternative.invariant
          ∙ sym (fold_push with_name c.args.tokens.now so_far w.in-Some.token.now)
          ∙ ap (with_names c.args.tokens.now) (sym (kept_more named_precedence alternative_of items i x c.loop-alternative-test.true w.in-Some.token.now (w.in-Some.ensures ∙ here)))
      | in_default w ↦
          w.tokens-is
          ∙ c.loop-alternative.invariant
          ∙ ap (with_names c.args.tokens.now) (sym (kept_same named_precedence alternative_of items i x c.loop-alternative-test.true (w.in_default.ensures ∙ here)))
    ]

-- all alternatives were gone along
pub returns : goal.returns
returns c = c.loop-alternative.invariant ∙ ap (λ xs. with_names c.args.tokens.now (filter_map named_precedence (map alternative_of xs))) (take_all c.loop-alternative.alternative-index c.args.alternatives.now c.loop-alternative-test.false)
