use Rattle.std.proofs.Common.{◌∙◌, ap, map, filter_map, flat_map, []}
use Rattle.lrtext.specs.NumberedNames.{with_names, names_of}
use Rattle.lrspec.specs.texts.Meaning.{token_in_body, named_precedence}
use Rattle.lrtext.specs.StoredContents.{line_names_of, body_of, alternative_of}
use Rattle.lrtext.proofs.NumberedContents.{tokens_are}
use Rattle.lrtext.proofs.meaning.numbering.tokens.Goals as goal

-- the names of the four sources in turn
pub returns : goal.returns
returns c =
    let d = c.args.contents.now in
    let h = token_in_body c.args.rules.now in
    let first = c.in_ok-add_all.ensures ∙ ap (λ ws. with_names ws (names_of c.as_slice.result.now)) c.new-tokens.ensures ∙ ap (λ xs. with_names [] (names_of xs)) c.as_slice.ensures.value in
    let used = c.in_ok-add_bodies.ensures ∙ ap (λ ws. with_names ws (filter_map h (flat_map body_of c.as_slice-2.result.now))) first ∙ ap (λ xs. with_names (with_names [] (names_of d.declared.items)) (filter_map h (flat_map body_of xs))) c.as_slice-2.ensures.value in
    let lines = c.in_ok-add_lines.ensures ∙ ap (λ ws. with_names ws (flat_map line_names_of c.as_slice-3.result.now)) used ∙ ap (λ xs. with_names (with_names (with_names [] (names_of d.declared.items)) (filter_map h (flat_map body_of d.alternatives.items))) (flat_map line_names_of xs)) c.as_slice-3.ensures.value in
    let before = with_names (with_names (with_names [] (names_of d.declared.items)) (filter_map h (flat_map body_of d.alternatives.items))) (flat_map line_names_of d.kind_lines.items) in
    let last = c.in_ok-add_named.ensures ∙ ap (λ ws. with_names ws (filter_map named_precedence (map alternative_of c.as_slice-4.result.now))) lines ∙ ap (λ xs. with_names before (filter_map named_precedence (map alternative_of xs))) c.as_slice-4.ensures.value in
    tokens_are d c.args.rules.now c.add_named.new.tokens c.requires last
