use Rattle.std.proofs.Common.{refl, ap, ◌∙◌, flat_map}
use Rattle.std.proofs.lemmas.List.{take_all}
use Rattle.lrtext.specs.NumberedNames.{names_of, with_names}
use Rattle.lrtext.specs.StoredContents.{line_names_of}
use Rattle.lrtext.proofs.AddedNames.{names_added}
use Rattle.lrtext.proofs.meaning.numbering.add_lines.Goals as goal

-- the names of one more line were added
pub loop-line-preserved : goal.loop-line-preserved
loop-line-preserved c =
    let before = c.loop-line.numbers in
    let more = c.in_ok-add_all.ensures ∙ ap (λ ns. with_names before (names_of ns)) c.as_slice.ensures.value ∙ ap (λ l. with_names before (line_names_of l)) c.line-item.is in
    names_added c.args.lines.now c.args.lines.now c.loop-line.line-index c.line-item.result c.args.numbers.now before c.add_all.new.self refl c.loop-line-test.true line_names_of c.loop-line.invariant more

-- all lines were gone along
pub returns : goal.returns
returns c = c.loop-line.invariant ∙ ap (λ ls. with_names c.args.numbers.now (flat_map line_names_of ls)) (take_all c.loop-line.line-index c.args.lines.now c.loop-line-test.false)
