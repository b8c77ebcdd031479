use Rattle.std.proofs.Common.{◌≡◌, length, get_or, arith}
use Rattle.std.proofs.lemmas.List.{drop_all}
use Rattle.lrspec.proofs.grammars.ListMembers.{among_from_contains, contains_from_among}
use Rattle.lrclosing.specs.Leads.{rows_in}
use Rattle.lrclosing.proofs.ListedTurns.{number_kept}
use Rattle.lrclosing.proofs.ProductionsWithRows.{marked_none, marked_next, marked_every, put_in_below}
use Rattle.lrclosing.proofs.RowsReached.{row_by_bit, bit_by_row, left_here, row_in_turn, rule_in_turn}
use Rattle.lrclosing.proofs.listing.mark_reached.Goals as goal

pub places_in-len-requires-clause-first : goal.places_in-len-requires-clause-first
places_in-len-requires-clause-first g c = omega (arith, c.reached_range-range.ensures.first, c.from.ensures, c.prods_len.ensures.value)

pub places_in-len-requires-clause-last : goal.places_in-len-requires-clause-last
places_in-len-requires-clause-last g c = rw (c.from.ensures, c.prods_len.ensures.value) c.reached_range-range.ensures.last

pub loop-place-init : goal.loop-place-init
loop-place-init g c =
    let rs = c.args.closer.now.rows.items in
    let is = c.requires.is.reached in
    let value = c.as_slice-place-items.ensures.value in
    let n = rw (c.from.ensures, c.prods_len.ensures.value) at c.places_in-len.ensures in
    let r = c.reached_range-range.ensures in
    marked_none c.args.grm.now (rows_in rs) _ c.reached_range-range.result.0 c.places_in-len.result _ c.in_ok-bits.ensures.bits n.most
    (λ q h. let i = r.has q h in (i.0, n.all q (put_in_below c.args.grm.now (rows_in rs) q h) i))
    (λ a h. rw value (among_from_contains a _ (is.all a (bit_by_row rs a h))))
    (λ a h. row_by_bit rs a (is.each a (contains_from_among a _ (rw value at h))))

pub unwrap-requires : goal.unwrap-requires
unwrap-requires g c =
    let rs = c.args.closer.now.rows.items in
    let rules = c.as_slice-place-items.result.now in
    let i = c.loop-place.place-index in
    let below = rule_in_turn rs rules i (length c.args.grm.now.rule_names) c.requires.is.rows.len c.loop-place-test.true c.loop-place.invariant.some in
    number_kept _ _ g.T.IndexStorage.MAX (get_or rules i 0) (length c.args.grm.now.rule_names) c.from_usize.ensures below c.prods_len.ensures.sizes.rules

pub mark_from-requires-clause-rule : goal.mark_from-requires-clause-rule
mark_from-requires-clause-rule g c =
    let rs = c.args.closer.now.rows.items in
    let rules = c.as_slice-place-items.result.now in
    let i = c.loop-place.place-index in
    let place : g.T.IndexStorage.number c.unwrap.result ≡ get_or rules i 0 = (rw c.unwrap.ensures at c.from_usize.ensures).1 in
    rw place (rule_in_turn rs rules i _ c.requires.is.rows.len c.loop-place-test.true c.loop-place.invariant.some)

pub mark_from-requires-clause-within : goal.mark_from-requires-clause-within
mark_from-requires-clause-within g c =
    let rs = c.args.closer.now.rows.items in
    let rules = c.as_slice-place-items.result.now in
    let i = c.loop-place.place-index in
    let some = row_in_turn rs rules i c.loop-place-test.true c.loop-place.invariant.some in
    let place : g.T.IndexStorage.number c.unwrap.result ≡ get_or rules i 0 = (rw c.unwrap.ensures at c.from_usize.ensures).1 in
    λ q h. c.loop-place.invariant.within q (get_or rules i 0, rw place at h, some)

pub loop-place-preserved : goal.loop-place-preserved
loop-place-preserved g c =
    let rules = c.as_slice-place-items.result.now in
    let i = c.loop-place.place-index in
    let place : g.T.IndexStorage.number c.unwrap.result ≡ get_or rules i 0 = (rw c.unwrap.ensures at c.from_usize.ensures).1 in
    marked_next c.args.grm.now (rows_in c.args.closer.now.rows.items) (get_or rules i 0) _ _ c.reached_range-range.result.0 _ _
    (left_here rules i 0 c.loop-place-test.true) (rw place at c.mark_from.ensures) c.loop-place.invariant

pub returns : goal.returns
returns g c =
    marked_every c.args.grm.now (rows_in c.args.closer.now.rows.items) _ c.reached_range-range.result.0 _
    (drop_all c.loop-place.place-index c.as_slice-place-items.result.now c.loop-place-test.false) c.loop-place.invariant
