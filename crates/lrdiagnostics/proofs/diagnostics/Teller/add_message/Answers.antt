-- the place by which a message begins, and what stands behind it
use Rattle.std.proofs.Common.{map, sym, subst}
use Rattle.lrdiagnostics.specs.Places.{AddsMore, AddsPlaces}
use Rattle.lrdiagnostics.proofs.AddedPieces.{no_more, more_of, more_both}
use Rattle.lrdiagnostics.proofs.ToldPlaces.{no_place, one_place, without_first, with_first}
use Rattle.lrdiagnostics.proofs.diagnostics.Teller.add_message.Goals as goal
use Rattle.lrdiagnostics.proofs.diagnostics.Teller.add_message.Goals.{then-more-gt0, else-more-gt0}

pub returns-in_default : goal.returns-in_default
returns-in_default c =
    let text = c.args.text.now in
    let source = c.args.self.source.now in
    let none = without_first c.args.message.now.places.items (sym (rw (c.in_default.is, c.deref.ensures.value) at c.first.ensures.value)) in
    subst (λ spans. AddsPlaces text text source.name.now source.bytes.now (map (λ span. span.start) spans)) (sym none)
    (no_place _ _ (no_more text))

pub returns : goal.returns
returns c =
    let source = c.args.self.source.now in
    let marked = more_both c.add.ensures (more_both (more_of c.write-2.ensures) c.in_ok-add_marks.ensures) in
    let behind : AddsMore c.write.new.self c.if-more-gt0.text =
    elim c.if-more-gt0.branch [
      | then-more-gt0 w ↦ rw w.text-is (more_both marked w.add_more.ensures)
      | else-more-gt0 w ↦ rw w.text-is marked
    ] in
    let first = with_first c.args.message.now.places.items c.in-Some.first.now (sym (rw c.deref.ensures.value at c.in-Some.ensures.value)) in
    subst (λ spans. AddsPlaces c.args.text.now c.if-more-gt0.text source.name.now source.bytes.now (map (λ span. span.start) spans)) (sym first)
    (one_place c.position-at.ensures.line c.position-at.ensures.column c.write.ensures behind)
