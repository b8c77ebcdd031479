use Rattle.std.proofs.Common.{◌∙◌, ap, flat_map, []}
use Rattle.lrtext.specs.NumberedNames.{with_names, names_of}
use Rattle.lrtext.specs.StoredContents.{line_names_of}
use Rattle.lrtext.proofs.NumberedContents.{declared_are}
use Rattle.lrtext.proofs.meaning.numbering.declared.Goals as goal

-- the names of both kinds of lines
pub returns : goal.returns
returns c =
    let d = c.args.contents.now in
    let first = c.in_ok-add_all.ensures ∙ ap (λ ws. with_names ws (names_of c.as_slice.result.now)) c.new-declared.ensures ∙ ap (λ xs. with_names [] (names_of xs)) c.as_slice.ensures.value in
    let then = c.in_ok-add_lines.ensures ∙ ap (λ ws. with_names ws (flat_map line_names_of c.as_slice-2.result.now)) first ∙ ap (λ xs. with_names (with_names [] (names_of d.declared.items)) (flat_map line_names_of xs)) c.as_slice-2.ensures.value in
    declared_are d c.add_lines.new.numbers then
