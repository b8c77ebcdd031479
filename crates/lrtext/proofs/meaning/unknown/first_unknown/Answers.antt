use Rattle.std.proofs.Common.{◌≡◌, ◌∙◌, [], ◌++◌, ap, sym, filter_map, flat_map, slice_get}
use Rattle.std.specs.Prelude.{not, filter}
use Rattle.lrspec.specs.texts.Names.{has_name}
use Rattle.lrspec.specs.texts.Meaning.{unknown_in_body}
use Rattle.lrtext.specs.StoredContents.{body_of, starts_of}
use Rattle.lrtext.proofs.NumberedContents.{unknown_are, start_known, no_start}
use Rattle.lrtext.proofs.meaning.unknown.first_unknown.Goals as goal
use Rattle.lrtext.proofs.meaning.unknown.first_unknown.Goals.{in-Some+else-not-has, in_default}

-- where the start rule is known, the first unknown name is one of a body
pub returns : goal.returns
returns c =
    let d = c.args.contents.now in
    let h = unknown_in_body c.args.rules.now c.args.declared.now in
    let none : filter (λ w. not (has_name c.args.rules.now w)) (starts_of d.start) ≡ [] =
    elim c.match-contents.branch [
      | in-Some+else-not-has w ↦ start_known c.args.rules.now d.start w.in-Some.start w.in-Some.is (sym w.if-not-has.ensures)
      | in_default w ↦ no_start c.args.rules.now d.start w.in_default.is
    ] in
    c.first_in_bodies.ensures
    ∙ ap (λ xs. slice_get (filter_map h (flat_map body_of xs)) 0) c.as_slice.ensures.value
    ∙ ap (λ ws. slice_get (ws ++ filter_map h (flat_map body_of d.alternatives.items)) 0) (sym none)
    ∙ ap (λ ws. slice_get ws 0) (unknown_are d c.args.rules.now c.args.declared.now c.requires.rules c.requires.declared)
