-- a turn for each item of the closed state
use Rattle.std.proofs.Common.{◌∷◌, refl}
use Rattle.lrbits.specs.Bits.{bit}
use Rattle.lrsearches.proofs.NeedFacts.{looks_found}
use Rattle.lritems.specs.ItemsOf.{items_of}
use Rattle.lrspec.specs.grammars.ItemSets.{HasItem}
use Rattle.lrclosing.proofs.WalksOverItems.{found_all, first_or_rest}
use Rattle.lrsearches.specs.StoredPlaces.{needs_of}
use Rattle.lrsearches.proofs.ClosesInTurn.{begin_closing, next_closing, all_closed, end_closing, none_left}
use Rattle.lrsearches.proofs.closes.closes_by_items.Goals as goal

pub loop-key-init : goal.loop-key-init
loop-key-init g c =
    let number = g.T.IndexStorage.number in
    let i = c.into_iter-key-iterator.ensures.into_iter_gives in
    record {
      found = rw i.0 (found_all number g.T.Ord.cmp g.met.T.IndexStorage.ordered c.args.closed.now.items.entries c.args.closed.now.items.entries i.6);
      closing = rw c.new-needs.ensures.items (begin_closing c.args.grm.now (items_of number c.args.closed.now.items.entries) (number c.args.token.0) (number c.prod_to_rule-rule.result.0) (number c.args.pidx.0)
          (λ q d. HasItem (items_of number c.into_iter-key-iterator.result) q d) (λ q d h y b. rw i.0 h));
    }

pub close_by-requires-clause-fits : goal.close_by-requires-clause-fits
close_by-requires-clause-fits g c =
    let found = rw c.in-Some.ensures.steps at c.loop-key.invariant.found in
    c.requires.fits _ _ c.in-Some.ctx.now found.0

pub returns-then-branch : goal.returns-then-branch
returns-then-branch g c =
    let number = g.T.IndexStorage.number in
    let found = rw c.in-Some.ensures.steps at c.loop-key.invariant.found in
    all_closed c.args.grm.now (items_of number c.args.closed.now.items.entries) (number c.args.token.0) (number c.prod_to_rule-rule.result.0) (number c.args.pidx.0)
    c.in_ok-close_by.ensures c.if-branch.true c.prod_to_rule-rule.ensures.rule (rw found.0 refl)

pub loop-key-preserved : goal.loop-key-preserved
loop-key-preserved g c =
    let number = g.T.IndexStorage.number in
    let set = items_of number c.args.closed.now.items.entries in
    let q = number c.in-Some.key.now.0.0 in
    let d = number c.in-Some.key.now.1.0 in
    let t = number c.args.token.0 in
    let found = rw c.in-Some.ensures.steps at c.loop-key.invariant.found in
    let closing = rw c.in-Some.ensures.steps at c.loop-key.invariant.closing in
    record {
      found = found.1;
      closing =
          next_closing c.args.grm.now set t (number c.prod_to_rule-rule.result.0) (number c.args.pidx.0) q d (needs_of number c.loop-key.needs.items)
          (λ i e. HasItem (((q, d), c.in-Some.ctx.now) ∷ items_of number c.next.new.self) i e) (λ i e. HasItem (items_of number c.next.new.self) i e)
          (first_or_rest q d c.in-Some.ctx.now (items_of number c.next.new.self))
          (looks_found set q d t c.in-Some.ctx.now (bit c.in-Some.ctx.now t) found.0 refl) c.in_ok-close_by.ensures c.if-branch.false c.prod_to_rule-rule.ensures.rule closing;
    }

pub returns : goal.returns
returns g c =
    let number = g.T.IndexStorage.number in
    end_closing c.args.grm.now (items_of number c.args.closed.now.items.entries) (number c.args.token.0) (number c.prod_to_rule-rule.result.0) (number c.args.pidx.0)
    _ _ c.prod_to_rule-rule.ensures.rule c.loop-key.invariant.closing (none_left _ (rw c.in-None.ensures.steps.0 refl))
