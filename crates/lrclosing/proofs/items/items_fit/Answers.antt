use Rattle.std.proofs.Common.{◌≡◌, sym, inr, refl, ◌∙◌, false, true}
use Rattle.lrclosing.proofs.WalksOverItems.{found_all, checked_turn, checked_end}
use Rattle.lrclosing.proofs.items.items_fit.Goals as goal

pub loop-key-init : goal.loop-key-init
loop-key-init g c =
    let number = g.T.IndexStorage.number in
    let i = c.into_iter-key-iterator.ensures.into_iter_gives in
    record {
      found = rw i.0 (found_all number g.T.Ord.cmp g.met.T.IndexStorage.ordered c.args.items.now.entries c.args.items.now.entries i.6);
      checked = λ p d v h. inr (rw (i.0, h) refl);
    }

pub loop-key-preserved : goal.loop-key-preserved
loop-key-preserved g c =
    let i = c.loop-key.invariant in
    let found = rw c.in-Some.ensures.steps at i.found in
    let checked = rw c.in-Some.ensures.steps at i.checked in
    record { found = found.1; checked = checked_turn c.args.grm.now _ _ _ c.in-Some.ctx.now _ checked found.0 (c.item_fits.ensures.0 c.if-not-item_fits.false) }

pub returns-then-not-item_fits : goal.returns-then-not-item_fits
returns-then-not-item_fits g c =
    let found = rw c.in-Some.ensures.steps at c.loop-key.invariant.found in
    (λ h. cc, λ f. let yes = c.item_fits.ensures.1 (f _ _ c.in-Some.ctx.now found.0) in let n : true ≡ false = sym yes ∙ c.if-not-item_fits.true in cc)

pub returns : goal.returns
returns g c = (λ h. checked_end c.args.grm.now _ _ c.loop-key.invariant.checked (rw c.in-None.ensures.steps.0 refl), λ f. refl)
