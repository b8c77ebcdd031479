use Rattle.std.proofs.Common.{ℕ, ◌<◌, length, get_or, refl, arith}
use Rattle.std.specs.Prelude.{IsTrue}
use Rattle.std.specs.List.{Contains}
use Rattle.std.proofs.lemmas.List.{drop_all}
use Rattle.std.proofs.lemmas.List.Elements.{Contains-get_or}
use Rattle.std.proofs.lemmas.Option.{slice_get-get_or}
use Rattle.lrspec.proofs.grammars.ListMembers.{among_from_contains}
use Rattle.lrbits.specs.Bits.{bit}
use Rattle.lrclosing.specs.Leads.{reached_of}
use Rattle.lrclosing.proofs.MarkedProductions.{below_of_bit}
use Rattle.lrclosing.proofs.ReachedPlaces.{reached_none}
use Rattle.lrclosing.proofs.RowsReached.{left_here, length_reached, left_by_bits, left_next, none_reached, no_bits}
use Rattle.lrclosing.proofs.RowsWritten.{kept_written}
use Rattle.lrclosing.proofs.closer.clear_rows.Goals as goal

pub loop-place-init : goal.loop-place-init
loop-place-init c = record {
  left = left_by_bits c.args.rows.now _ (λ a h. among_from_contains a _ (rw c.as_slice-place-items.ensures.value (c.requires.all a h)));
  kept = λ g k. k;
}

pub bounds-rows-place : goal.bounds-rows-place
bounds-rows-place c =
    let here = Contains-get_or c.as_slice-place-items.result.now c.loop-place.place-index 0 c.loop-place-test.true in
    let each : (a : ℕ) → Contains c.as_slice-place-items.result.now a → IsTrue (bit (reached_of c.args.rows.now) a) =
    rw c.as_slice-place-items.ensures.value c.requires.each in
    let set = each _ here in
    omega (arith, below_of_bit (reached_of c.args.rows.now) _ set, length_reached c.args.rows.now, c.loop-place.auto.rows)

pub offset_bounds-rows-place : goal.offset_bounds-rows-place
offset_bounds-rows-place c =
    let here = Contains-get_or c.as_slice-place-items.result.now c.loop-place.place-index 0 c.loop-place-test.true in
    let each : (a : ℕ) → Contains c.as_slice-place-items.result.now a → IsTrue (bit (reached_of c.args.rows.now) a) =
    rw c.as_slice-place-items.ensures.value c.requires.each in
    let set = each _ here in
    let below : get_or c.as_slice-place-items.result.now c.loop-place.place-index 0 < length c.loop-place.rows =
    omega (arith, below_of_bit (reached_of c.args.rows.now) _ set, length_reached c.args.rows.now, c.loop-place.auto.rows) in
    omega arith

pub loop-place-preserved : goal.loop-place-preserved
loop-place-preserved c =
    let rs = c.loop-place.rows in
    let b = get_or c.as_slice-place-items.result.now c.loop-place.place-index 0 in
    let here = Contains-get_or c.as_slice-place-items.result.now c.loop-place.place-index 0 c.loop-place-test.true in
    let each : (a : ℕ) → Contains c.as_slice-place-items.result.now a → IsTrue (bit (reached_of c.args.rows.now) a) =
    rw c.as_slice-place-items.ensures.value c.requires.each in
    let set = each _ here in
    let below : b < length rs = omega (arith, below_of_bit (reached_of c.args.rows.now) b set, length_reached c.args.rows.now, c.loop-place.auto.rows) in
    record {
      left = left_next rs b c.clear_row.new.row _ _ (left_here c.as_slice-place-items.result.now c.loop-place.place-index 0 c.loop-place-test.true) below
          c.clear_row.ensures.clear c.loop-place.invariant.left;
      kept = λ g k.
          let kept = c.loop-place.invariant.kept g k in
          let row = kept.each b _ (slice_get-get_or rs b c.index-rows-place.result below) in
          kept_written g rs _ b c.clear_row.new.row kept (c.clear_row.ensures.row g row) refl;
    }

pub returns-clause-clear : goal.returns-clause-clear
returns-clause-clear c = λ g k. record {
  are = c.loop-place.invariant.kept g k;
  clear = none_reached c.loop-place.rows _ (drop_all c.loop-place.place-index c.as_slice-place-items.result.now c.loop-place-test.false) c.loop-place.invariant.left;
}

pub returns-clause-reached : goal.returns-clause-reached
returns-clause-reached c =
    let none = none_reached c.loop-place.rows _ (drop_all c.loop-place.place-index c.as_slice-place-items.result.now c.loop-place-test.false) c.loop-place.invariant.left in
    reached_none (reached_of c.loop-place.rows) c.clear.new.self (no_bits c.loop-place.rows none) c.clear.ensures.items
    (omega (arith, length_reached c.loop-place.rows, length_reached c.args.rows.now, c.loop-place.auto.rows, c.requires.room, c.clear.ensures.capacity))
