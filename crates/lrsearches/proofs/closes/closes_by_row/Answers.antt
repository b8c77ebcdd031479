-- a turn for each item of the row
use Rattle.std.proofs.Common.{◌+◌, ◌∷◌, drop, refl, sym, ◌∙◌, arith}
use Rattle.std.specs.Prelude.{Contains}
use Rattle.lrbits.specs.Bits.{bit}
use Rattle.lritems.specs.ItemsOf.{set_of}
use Rattle.lrclosing.proofs.ItemKeys.{item_here}
use Rattle.lrsearches.specs.StoredPlaces.{needs_of}
use Rattle.lrsearches.specs.StoredUses.{keys_of}
use Rattle.lrsearches.proofs.NeedFacts.{looks_found}
use Rattle.lrsearches.proofs.UsesInTurn.{keys_left, keys_none}
use Rattle.lrsearches.proofs.ClosesInTurn.{begin_closing, absent_closing, next_closing, all_closed, end_closing, first_or_behind, none_behind, below_of_item, absent_item}
use Rattle.lrsearches.proofs.closes.closes_by_row.Goals as goal

pub loop-key-init : goal.loop-key-init
loop-key-init g c =
    let number = g.T.IndexStorage.number in
    let set = set_of number c.args.closed.now in
    rw c.new-needs.ensures.items
    (begin_closing c.args.grm.now set (number c.args.token.0) (number c.args.rule.0) (number c.args.pidx.0)
    (λ q d. Contains (keys_of number c.args.row.now) (q, d))
    (λ q d h y b. c.requires.row q d y (below_of_item c.args.grm.now set q d c.requires.fits h) b))

pub loop-key-preserved-in_default : goal.loop-key-preserved-in_default
loop-key-preserved-in_default g c =
    let number = g.T.IndexStorage.number in
    let set = set_of number c.args.closed.now in
    let key = c.key-item.result in
    let q = number key.0.0 in
    let d = number key.1.0 in
    let left = keys_left number c.args.row.now c.loop-key.key-index key c.loop-key-test.true c.key-item.is in
    let closing = rw left at c.loop-key.invariant in
    let behind = keys_of number (drop (c.loop-key.key-index + 1) c.args.row.now) in
    let here = item_here number g.T.Ord.cmp g.met.T.IndexStorage.ordered c.args.closed.now.items.entries key in
    absent_closing c.args.grm.now set (number c.args.token.0) (number c.args.rule.0) (number c.args.pidx.0) q d (needs_of number c.loop-key.needs.items)
    (λ i e. Contains ((q, d) ∷ behind) (i, e)) (λ i e. Contains behind (i, e)) (first_or_behind behind q d)
    (absent_item set q d (sym (c.in_default.ensures.value ∙ here))) closing

pub close_by-requires-clause-fits : goal.close_by-requires-clause-fits
close_by-requires-clause-fits g c =
    let number = g.T.IndexStorage.number in
    let key = c.key-item.result in
    let here = item_here number g.T.Ord.cmp g.met.T.IndexStorage.ordered c.args.closed.now.items.entries key in
    c.requires.fits (number key.0.0) (number key.1.0) c.in-Some.ctx.now (sym (c.in-Some.ensures.value ∙ here))

pub returns-then-branch : goal.returns-then-branch
returns-then-branch g c =
    let number = g.T.IndexStorage.number in
    let here = item_here number g.T.Ord.cmp g.met.T.IndexStorage.ordered c.args.closed.now.items.entries c.key-item.result in
    let item = sym (c.in-Some.ensures.value ∙ here) in
    all_closed c.args.grm.now (set_of number c.args.closed.now) (number c.args.token.0) (number c.args.rule.0) (number c.args.pidx.0)
    c.in_ok-close_by.ensures c.if-branch.true c.requires.rule (rw item refl)

pub loop-key-preserved : goal.loop-key-preserved
loop-key-preserved g c =
    let number = g.T.IndexStorage.number in
    let set = set_of number c.args.closed.now in
    let t = number c.args.token.0 in
    let key = c.key-item.result in
    let q = number key.0.0 in
    let d = number key.1.0 in
    let left = keys_left number c.args.row.now c.loop-key.key-index key c.loop-key-test.true c.key-item.is in
    let closing = rw left at c.loop-key.invariant in
    let behind = keys_of number (drop (c.loop-key.key-index + 1) c.args.row.now) in
    let here = item_here number g.T.Ord.cmp g.met.T.IndexStorage.ordered c.args.closed.now.items.entries key in
    let item = sym (c.in-Some.ensures.value ∙ here) in
    next_closing c.args.grm.now set t (number c.args.rule.0) (number c.args.pidx.0) q d (needs_of number c.loop-key.needs.items)
    (λ i e. Contains ((q, d) ∷ behind) (i, e)) (λ i e. Contains behind (i, e)) (first_or_behind behind q d)
    (looks_found set q d t c.in-Some.ctx.now (bit c.in-Some.ctx.now t) item refl) c.in_ok-close_by.ensures c.if-branch.false c.requires.rule closing

pub returns : goal.returns
returns g c =
    let number = g.T.IndexStorage.number in
    end_closing c.args.grm.now (set_of number c.args.closed.now) (number c.args.token.0) (number c.args.rule.0) (number c.args.pidx.0)
    (needs_of number c.loop-key.needs.items) (λ q d. Contains (keys_of number (drop c.loop-key.key-index c.args.row.now)) (q, d))
    c.requires.rule c.loop-key.invariant
    (none_behind _ (keys_none number c.args.row.now c.loop-key.key-index (omega (arith, c.loop-key-test.false))))
