use Rattle.std.proofs.Common.{◌≡◌, ◌⊎◌, inl, inr, [], sym, ◌∙◌}
use Rattle.std.proofs.lemmas.List.{nil_from_length}
use Rattle.std.specs.Iterator.Adapters.{zip_first, zip_second}
use Rattle.std.specs.Slice.Iter.{iter_rest}
use Rattle.std.specs.Vec.Iter.{into_iter_items}
use Rattle.lryacc.proofs.KeptLemmas.{with_numbers-end}
use Rattle.lryacc.proofs.useful.Selection.with_numbers.Goals as goal

pub returns : goal.returns
returns g c =
    let at = c.loop-number in
    let numbers = iter_rest (zip_first at.number-iterator) in
    let items = into_iter_items (zip_second at.number-iterator) in
    let end : (numbers ≡ []) ⊎ (items ≡ []) = elim c.in-None.ensures.steps [
      | inl first ↦ inl (nil_from_length numbers first.1.0)
      | inr second ↦ inr (nil_from_length items (sym at.invariant.counted ∙ second.1.0))
    ] in
    with_numbers-end at.kept.items _ numbers items end at.invariant.left
