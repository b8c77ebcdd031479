use Rattle.std.proofs.Common.{◌≡◌, length, get_or, arith, inl}
use Rattle.std.proofs.lemmas.List.{drop_all}
use Rattle.lrspec.proofs.grammars.ListMembers.{among_from_contains, contains_from_among}
use Rattle.lrclosing.specs.Leads.{rows_in}
use Rattle.lrclosing.proofs.ListedTurns.{number_kept}
use Rattle.lrclosing.proofs.ProductionsWithRows.{range_next, range_every}
use Rattle.lrclosing.proofs.RowsReached.{row_by_bit, bit_by_row, left_here, rule_in_turn}
use Rattle.lrclosing.proofs.listing.reached_range.Goals as goal

pub loop-place-init : goal.loop-place-init
loop-place-init g c =
    let rs = c.args.closer.now.rows.items in
    let is = c.requires.is.reached in
    let value = c.as_slice-place-items.ensures.value in
    record {
      has = λ q r i h. inl (rw value (among_from_contains r _ (is.all r (bit_by_row rs r h))));
      some = λ r h. row_by_bit rs r (is.each r (contains_from_among r _ (rw value at h)));
      first = omega (arith, c.from.ensures, c.prods_len.ensures.value);
      last = λ h. h;
    }

pub unwrap-requires : goal.unwrap-requires
unwrap-requires g c =
    let rs = c.args.closer.now.rows.items in
    let rules = c.as_slice-place-items.result.now in
    let i = c.loop-place.place-index in
    let below = rule_in_turn rs rules i (length c.args.grm.now.rule_names) c.requires.is.rows.len c.loop-place-test.true c.loop-place.invariant.some in
    number_kept _ _ g.T.IndexStorage.MAX (get_or rules i 0) (length c.args.grm.now.rule_names) c.from_usize.ensures below c.prods_len.ensures.sizes.rules

pub with_productions-range-requires : goal.with_productions-range-requires
with_productions-range-requires g c =
    let rs = c.args.closer.now.rows.items in
    let rules = c.as_slice-place-items.result.now in
    let i = c.loop-place.place-index in
    let place : g.T.IndexStorage.number c.unwrap.result ≡ get_or rules i 0 = (rw c.unwrap.ensures at c.from_usize.ensures).1 in
    rw place (rule_in_turn rs rules i _ c.requires.is.rows.len c.loop-place-test.true c.loop-place.invariant.some)

pub loop-place-preserved : goal.loop-place-preserved
loop-place-preserved g c =
    let rules = c.as_slice-place-items.result.now in
    let i = c.loop-place.place-index in
    let place : g.T.IndexStorage.number c.unwrap.result ≡ get_or rules i 0 = (rw c.unwrap.ensures at c.from_usize.ensures).1 in
    let w = rw place at c.with_productions-range.ensures in
    range_next c.args.grm.now (rows_in c.args.closer.now.rows.items) (get_or rules i 0) _ _ c.loop-place.range c.with_productions-range.result
    (left_here rules i 0 c.loop-place-test.true) w.has w.kept w.first w.last c.loop-place.invariant

pub returns-clause-has : goal.returns-clause-has
returns-clause-has g c =
    range_every c.args.grm.now (rows_in c.args.closer.now.rows.items) _ c.loop-place.range
    (drop_all c.loop-place.place-index c.as_slice-place-items.result.now c.loop-place-test.false) c.loop-place.invariant

pub returns-clause-first : goal.returns-clause-first
returns-clause-first g c = c.loop-place.invariant.first

pub returns-clause-last : goal.returns-clause-last
returns-clause-last g c = c.loop-place.invariant.last
