use Rattle.std.proofs.Common.{◌≡◌, length, get_or, inr}
use Rattle.lrspec.proofs.grammars.ListMembers.{contains_from_among}
use Rattle.lrclosing.proofs.ListedTurns.{number_kept}
use Rattle.lrclosing.proofs.RowsReached.{row_by_bit, left_here, rule_in_turn}
use Rattle.lrclosing.proofs.listing.reached_len.Goals as goal

pub loop-place-init : goal.loop-place-init
loop-place-init g c =
    let rs = c.args.closer.now.rows.items in
    let is = c.requires.is.reached in
    let value = c.as_slice-place-items.ensures.value in
    λ r h. row_by_bit rs r (is.each r (contains_from_among r _ (rw value at h)))

pub unwrap-requires : goal.unwrap-requires
unwrap-requires g c =
    let rs = c.args.closer.now.rows.items in
    let rules = c.as_slice-place-items.result.now in
    let i = c.loop-place.place-index in
    let below = rule_in_turn rs rules i (length c.args.grm.now.rule_names) c.requires.is.rows.len c.loop-place-test.true c.loop-place.invariant in
    number_kept _ _ g.T.IndexStorage.MAX (get_or rules i 0) (length c.args.grm.now.rule_names) c.from_usize.ensures below c.in_order.ensures.sizes.rules

pub rule_to_prods-productions-requires : goal.rule_to_prods-productions-requires
rule_to_prods-productions-requires g c =
    let rs = c.args.closer.now.rows.items in
    let rules = c.as_slice-place-items.result.now in
    let i = c.loop-place.place-index in
    let place : g.T.IndexStorage.number c.unwrap.result ≡ get_or rules i 0 = (rw c.unwrap.ensures at c.from_usize.ensures).1 in
    rw place (rule_in_turn rs rules i _ c.requires.is.rows.len c.loop-place-test.true c.loop-place.invariant)

pub loop-place-preserved : goal.loop-place-preserved
loop-place-preserved g c =
    let rules = c.as_slice-place-items.result.now in
    λ r h. c.loop-place.invariant r (rw (left_here rules c.loop-place.place-index 0 c.loop-place-test.true) (inr h))
