use Rattle.std.proofs.Common.{◌≡◌, ◌+◌, ◌<◌, ◌++◌, Some, length, refl, ap, ◌∙◌, arith}
use Rattle.std.specs.Prelude.{IsTrue, slice_get}
use Rattle.std.specs.List.{flat_map}
use Rattle.lrspec.proofs.grammars.ListMembers.{contains_from_among}
use Rattle.lrbits.specs.Bits.{bit, set_places}
use Rattle.lrclosing.specs.ItemsOf.{listed_of}
use Rattle.lrclosing.specs.Leads.{rows_in}
use Rattle.lrclosing.proofs.ListedItems.{row_of_production}
use Rattle.lrclosing.proofs.ListedTurns.{over_marked, places_order, below_end, number_kept, row_item_is, marked_row, row_pushed}
use Rattle.lrclosing.proofs.RowsWritten.{read_at}
use Rattle.lrclosing.proofs.SetPlaces.{first_among, rest_among}
use Rattle.lrclosing.proofs.listing.push_from.Goals as goal

pub iter_set_bits-place-items-requires-clause-order : goal.iter_set_bits-place-items-requires-clause-order
iter_set_bits-place-items-requires-clause-order g c =
    let m = c.args.productions.now in
    places_order m.from (length m.bits) c.args.from c.args.end _ _ c.place_of-begin.ensures c.place_of-behind.ensures c.requires.order

pub iter_set_bits-place-items-requires-clause-within : goal.iter_set_bits-place-items-requires-clause-within
iter_set_bits-place-items-requires-clause-within g c = c.place_of-behind.ensures.most

pub loop-place-init : goal.loop-place-init
loop-place-init g c =
    let number = g.T.IndexStorage.number in
    let m = c.args.productions.now in
    let rows = rows_in c.args.rows.now in
    let a = c.place_of-begin.result in
    let b = c.place_of-behind.result in
    let are : c.into_iter-place-iterator.result ≡ set_places m.bits a b =
    rw (c.into_iter-place-iterator.ensures.into_iter_gives, c.iter_set_bits-place-items.ensures.places) (refl {a = set_places m.bits a b}) in
    record {
      set = λ k i.
          let h = (c.iter_set_bits-place-items.ensures.members k).0 (contains_from_among k _ (rw c.into_iter-place-iterator.ensures.into_iter_gives at i)) in
          (below_end m.from (length m.bits) c.args.end k b c.place_of-behind.ensures h.1, h.2);
      added =
          ap (λ ks. listed_of number c.args.items.now.items ++ flat_map (λ k. row_of_production c.args.grm.now rows (m.from + k)) ks) are
          ∙ ap (λ x. listed_of number c.args.items.now.items ++ x)
          (over_marked c.args.grm.now rows m.from m.bits c.args.from c.args.end a b c.requires.productions c.requires.order c.requires.end c.place_of-begin.ensures c.place_of-behind.ensures);
    }

pub overflow_add-productions : goal.overflow_add-productions
overflow_add-productions g c =
    let m = c.args.productions.now in
    let set = first_among (λ k. (m.from + k < c.args.end) × IsTrue (bit m.bits k)) _ _ _ c.in-Some.ensures.steps c.loop-place.invariant.set in
    omega (arith, set.0)

pub unwrap-requires-in-loop-place : goal.unwrap-requires-in-loop-place
unwrap-requires-in-loop-place g c =
    let m = c.args.productions.now in
    let set = first_among (λ k. (m.from + k < c.args.end) × IsTrue (bit m.bits k)) _ _ _ c.in-Some.ensures.steps c.loop-place.invariant.set in
    let below : m.from + c.in-Some.place < length c.args.grm.now.productions = omega (arith, set.0, c.requires.end) in
    number_kept _ _ g.T.IndexStorage.MAX (m.from + c.in-Some.place) (length c.args.grm.now.productions) c.from_usize-in-loop-place.ensures below c.requires.sizes.productions

pub prod_to_rule-requires : goal.prod_to_rule-requires
prod_to_rule-requires g c =
    let m = c.args.productions.now in
    let set = first_among (λ k. (m.from + k < c.args.end) × IsTrue (bit m.bits k)) _ _ _ c.in-Some.ensures.steps c.loop-place.invariant.set in
    let place : g.T.IndexStorage.number c.unwrap-in-loop-place.result ≡ m.from + c.in-Some.place = (rw c.unwrap-in-loop-place.ensures at c.from_usize-in-loop-place.ensures).1 in
    omega (arith, set.0, c.requires.end, place)

pub loop-place-preserved : goal.loop-place-preserved
loop-place-preserved g c =
    let number = g.T.IndexStorage.number in
    let grm = c.args.grm.now in
    let m = c.args.productions.now in
    let rs = c.args.rows.now in
    let row = c.index-rows-from.result in
    let p = number c.unwrap-in-loop-place.result in
    let r = number c.prod_to_rule.result.0 in
    let place : p ≡ m.from + c.in-Some.place = (rw c.unwrap-in-loop-place.ensures at c.from_usize-in-loop-place.ensures).1 in
    let dot : number c.unwrap.result ≡ 0 = (rw c.unwrap.ensures at c.from_usize.ensures).1 in
    let rule : c.from.result < length rs = let l = c.prod_to_rule.ensures.shape.rules p r c.prod_to_rule.ensures.rule in omega (arith, l, c.requires.rows.len, c.from.ensures) in
    let at : slice_get rs r ≡ Some row = rw c.from.ensures at (read_at rs c.from.result _ row c.index-rows-from.is rule) in
    let set = first_among (λ k. (m.from + k < c.args.end) × IsTrue (bit m.bits k)) _ _ _ c.in-Some.ensures.steps c.loop-place.invariant.set in
    record {
      set = rest_among (λ k. (m.from + k < c.args.end) × IsTrue (bit m.bits k)) _ _ _ c.in-Some.ensures.steps c.loop-place.invariant.set;
      added =
          row_pushed (λ e. ((number e.0.0.0, number e.0.1.0), e.1.now)) (λ k. row_of_production grm (rows_in rs) (m.from + k)) _ _ _ c.in-Some.place _ _ _ c.in-Some.ensures.steps
          c.in_ok-push.ensures.items
          (row_item_is grm (rows_in rs) (m.from + c.in-Some.place) p r (number c.unwrap.result) row.ctx place c.prod_to_rule.ensures.rule
          (marked_row grm rs m.from m.bits c.in-Some.place r row c.requires.productions set.1 (rw place at c.prod_to_rule.ensures.rule) at) dot)
          c.loop-place.invariant.added;
    }

pub bounds-rows-from : goal.bounds-rows-from
bounds-rows-from g c =
    let number = g.T.IndexStorage.number in
    let l = c.prod_to_rule.ensures.shape.rules (number c.unwrap-in-loop-place.result) (number c.prod_to_rule.result.0) c.prod_to_rule.ensures.rule in
    omega (arith, l, c.requires.rows.len, c.from.ensures)
