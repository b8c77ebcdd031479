use Rattle.std.proofs.Common.{◌≡◌, ℕ, ◌∙◌, ◌+◌, ◌++◌, Bool, List, drop, refl, arith, inl}
use Rattle.lrclosing.specs.ItemsOf.{items_of, listed_of}
use Rattle.lrclosing.specs.Leads.{rows_in}
use Rattle.lrclosing.specs.Listing.{listed_items}
use Rattle.lrclosing.proofs.ItemsInTurn.{left_here, none_left, item_in_turn, behind_in_turn}
use Rattle.lrclosing.proofs.ListedTurns.{from_next, item_listed, all_listed}
use Rattle.lrclosing.proofs.listing.push_closed.Goals as goal

pub loop-key-init : goal.loop-key-init
loop-key-init g c =
    let number = g.T.IndexStorage.number in
    record {
      place = omega arith;
      order = λ x j. omega arith;
      listed = refl {a = listed_of number c.args.items.now.items ++ listed_items c.args.grm.now (rows_in c.args.rows.now) 0 (items_of number c.args.given.now)};
    }

pub push_from-requires-clause-sizes : goal.push_from-requires-clause-sizes
push_from-requires-clause-sizes g c = c.prods_len.ensures.sizes

pub push_from-requires-clause-rows : goal.push_from-requires-clause-rows
push_from-requires-clause-rows g c = c.requires.rows

pub push_from-requires-clause-productions : goal.push_from-requires-clause-productions
push_from-requires-clause-productions g c = c.requires.productions

pub push_from-requires-2-clause-sizes : goal.push_from-requires-2-clause-sizes
push_from-requires-2-clause-sizes g c = c.prods_len.ensures.sizes

pub push_from-requires-2-clause-rows : goal.push_from-requires-2-clause-rows
push_from-requires-2-clause-rows g c = c.requires.rows

pub push_from-requires-2-clause-productions : goal.push_from-requires-2-clause-productions
push_from-requires-2-clause-productions g c = c.requires.productions

pub push_from-requires-clause-order : goal.push_from-requires-clause-order
push_from-requires-clause-order g c =
    let number = g.T.IndexStorage.number in
    let e = c.loop-key-item.result in
    let order = rw (left_here number c.args.given.now c.loop-key.key-index e _ c.loop-key-test.true c.loop-key-item.is) at c.loop-key.invariant.order in
    let least = order ((number e.0.0.0, number e.0.1.0), e.1) (inl refl) in
    omega (arith, least, c.to_usize-next.ensures.number)

pub push_from-requires-clause-end : goal.push_from-requires-clause-end
push_from-requires-clause-end g c =
    let number = g.T.IndexStorage.number in
    let e = c.loop-key-item.result in
    let here = item_in_turn number c.args.given.now c.loop-key.key-index e _ c.requires.upwards c.loop-key-test.true c.loop-key-item.is in
    let fits = c.requires.fits _ _ e.1 here in
    omega (arith, fits.production, c.to_usize-next.ensures.number)

pub loop-key-preserved : goal.loop-key-preserved
loop-key-preserved g c =
    let number = g.T.IndexStorage.number in
    let rows = rows_in c.args.rows.now in
    let es = c.args.given.now in
    let i = c.loop-key.key-index in
    let e = c.loop-key-item.result in
    let x : (ℕ × ℕ) × List Bool = ((number e.0.0.0, number e.0.1.0), e.1) in
    let left = left_here number es i e _ c.loop-key-test.true c.loop-key-item.is in
    let fits = c.requires.fits _ _ e.1 (item_in_turn number es i e _ c.requires.upwards c.loop-key-test.true c.loop-key-item.is) in
    let behind = behind_in_turn number es i e _ c.requires.upwards c.loop-key-test.true c.loop-key-item.is in
    let next : c.to_usize-next.result + 1 ≡ number e.0.0.0 + 1 = omega (arith, c.to_usize-next.ensures.number) in
    record {
      place = omega (arith, next, fits.production);
      order = λ y j. let l = from_next x (items_of number (drop (i + 1) es)) behind y j in omega (arith, l, next);
      listed =
          item_listed (λ y. ((number y.0.0.0, number y.0.1.0), y.1.now)) c.args.grm.now rows _ _ _ _ _ _ x _ _ _ left next
          c.in_ok-push_from.ensures c.in_ok-push.ensures.items refl c.loop-key.invariant.listed;
    }

pub returns : goal.returns
returns g c =
    let number = g.T.IndexStorage.number in
    all_listed (λ y. ((number y.0.0.0, number y.0.1.0), y.1.now)) c.args.grm.now (rows_in c.args.rows.now) _ _ _ _ _ _
    (none_left number c.args.given.now c.loop-key.key-index c.loop-key-test.false) (c.from-end.ensures ∙ c.prods_len.ensures.value)
    c.in_ok-push_from-2.ensures c.loop-key.invariant.listed
