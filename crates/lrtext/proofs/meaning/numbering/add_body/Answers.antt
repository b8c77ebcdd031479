use Rattle.std.proofs.Common.{◌∙◌, ap, sym, filter_map, map, take}
use Rattle.std.proofs.lemmas.List.{take_all}
use Rattle.std.proofs.lemmas.List.Sums.{fold_push}
use Rattle.lrtext.specs.NumberedNames.{with_name, with_names}
use Rattle.lrspec.specs.texts.Meaning.{token_in_body}
use Rattle.lrtext.specs.StoredContents.{name_text_of}
use Rattle.lrtext.proofs.BodySteps.{kept_more, kept_same}
use Rattle.lrtext.proofs.meaning.numbering.add_body.Goals as goal
use Rattle.lrtext.proofs.meaning.numbering.add_body.Goals.{in-Some+in_ok-add, in_default}

-- one more name, which is a token or isn't
pub loop-name-preserved : goal.loop-name-preserved
loop-name-preserved c =
    let h = token_in_body c.args.rules.now in
    let so_far = filter_map h (map name_text_of (take c.loop-name.name-index c.args.body.now)) in
    elim c.match-token_name.branch [
      | in-Some+in_ok-add w ↦
          w.tokens-is
          ∙ w.in_ok-add.ensures
          ∙ ap (λ ws. with_name ws w.in-Some.token.now) c.loop-name.invariant
          ∙ sym (fold_push with_name c.args.tokens.now so_far w.in-Some.token.now)
          ∙ ap (with_names c.args.tokens.now) (sym (kept_more h name_text_of c.args.body.now c.loop-name.name-index _ c.loop-name-test.true w.in-Some.token.now w.in-Some.ensures))
      | in_default w ↦
          w.tokens-is
          ∙ c.loop-name.invariant
          ∙ ap (with_names c.args.tokens.now) (sym (kept_same h name_text_of c.args.body.now c.loop-name.name-index _ c.loop-name-test.true w.in_default.ensures))
    ]

-- all names were gone along
pub returns : goal.returns
returns c = c.loop-name.invariant ∙ ap (λ ns. with_names c.args.tokens.now (filter_map (token_in_body c.args.rules.now) (map name_text_of ns))) (take_all c.loop-name.name-index c.args.body.now c.loop-name-test.false)
