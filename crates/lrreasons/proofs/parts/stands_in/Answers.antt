use Rattle.std.proofs.Common.{◌≡◌, ◌++◌, ℕ, List, Some, refl, ap, ◌∙◌}
use Rattle.std.proofs.lemmas.List.{map-append}
use Rattle.std.proofs.lemmas.Slice.Eq.{slice_eq-Decides, strip_prefix_is, strip_suffix_is}
use Rattle.lrconflicts.specs.StoredMoves.{move_of, moves_stored}
use Rattle.lrconflicts.specs.declared.moves.Move.{Move}
use Rattle.lrgrammar.specs.Symbols.{number_of}
use Rattle.lrreasons.proofs.MoveTests.{moves_tested}
use Rattle.lrreasons.proofs.parts.stands_in.Goals as goal

-- lists of moves one after the other, by their numbers
stored_both : (whole xs ys : List (Move ℕ)) → whole ≡ xs ++ ys → moves_stored number_of whole ≡ moves_stored number_of xs ++ moves_stored number_of ys
stored_both whole xs ys e = ap (moves_stored number_of) e ∙ map-append (move_of number_of) xs ys

pub returns-in-Some-Some-Some : goal.returns-in-Some-Some-Some
returns-in-Some-Some-Some c = λ is.
    let tested = moves_tested (record { shifts = refl; shift_reduce = λ q. refl; reduce_shift = λ p. refl; reduces = λ p q. refl }) in
    let same = (slice_eq-Decides tested c.in-Some-Some-Some.rest.now c.in-Some-Some-Some.same.now c.eq.result c.eq.ensures).0 is in
    let before = strip_suffix_is tested c.as_slice-before.result.now c.as_slice.result.now (Some c.in-Some-Some-Some.field-0-0) c.in-Some-Some-Some.ensures.cases in
    let one = strip_prefix_is tested c.as_slice-one.result.now c.as_slice-2.result.now (Some c.in-Some-Some-Some.rest) c.in-Some-Some-Some.ensures'.cases in
    let other = strip_prefix_is tested c.as_slice-other.result.now c.as_slice-3.result.now (Some c.in-Some-Some-Some.same) c.in-Some-Some-Some.ensures''.cases in
    record {
      front = moves_stored number_of c.in-Some-Some-Some.field-0-0.now;
      rest = moves_stored number_of c.in-Some-Some-Some.rest.now;
      before = stored_both _ _ _ (rw (c.as_slice-before.ensures.value, c.as_slice.ensures.value) at before);
      one = stored_both _ _ _ (rw (c.as_slice-one.ensures.value, c.as_slice-2.ensures.value) at one);
      other = stored_both _ _ _ (rw (c.as_slice-other.ensures.value, c.as_slice-3.ensures.value, ← same) at other);
    }
