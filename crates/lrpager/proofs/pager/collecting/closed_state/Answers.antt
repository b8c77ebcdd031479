use Rattle.std.proofs.Common.{subst, sym}
use Rattle.lrspec.specs.grammars.ItemSets.{Fits, AreUpwards}
use Rattle.lritems.specs.ItemsOf.{set_of, listed_of}
use Rattle.lrpager.specs.Collecting.{OnlyStartsAtZero}
use Rattle.lrpager.specs.Keeping.{IsKeptClosure}
use Rattle.lrpager.proofs.KeptStates.{kept_upwards}
use Rattle.lrpager.proofs.MadeItems.{of_made}
use Rattle.lrpager.proofs.StartsAtZero.{rows_apart}
use Rattle.lrpager.proofs.pager.collecting.closed_state.Goals as goal

pub close-requires-clause-fits : goal.close-requires-clause-fits
close-requires-clause-fits g c = subst (Fits c.args.grm.now) (sym c.items-given.ensures.items) c.requires.fits

pub closed_items-requires-clause-fits : goal.closed_items-requires-clause-fits
closed_items-requires-clause-fits g c = subst (Fits c.args.grm.now) (sym c.items-given.ensures.items) c.requires.fits

pub closed_items-requires-clause-upwards : goal.closed_items-requires-clause-upwards
closed_items-requires-clause-upwards g c = subst AreUpwards (sym c.items-given.ensures.items) c.items-given.ensures.upwards

pub closed_items-requires-clause-apart : goal.closed_items-requires-clause-apart
closed_items-requires-clause-apart g c =
    let starts = subst (OnlyStartsAtZero c.args.grm.now) (sym c.items-given.ensures.items) c.requires.starts in
    rows_apart c.requires.of.shape starts c.close.ensures.closes

pub kept_items-requires-clause-fits : goal.kept_items-requires-clause-fits
kept_items-requires-clause-fits g c = c.in_ok-closed.ensures.fits

pub kept_items-requires-clause-upwards : goal.kept_items-requires-clause-upwards
kept_items-requires-clause-upwards g c = c.in_ok-closed.ensures.upwards

pub to_itemset-requires : goal.to_itemset-requires
to_itemset-requires g c =
    rw (c.as_slice.ensures.value, c.in_ok-items.ensures)
    (kept_upwards c.args.kept c.args.grm.now (listed_of g.T.IndexStorage.number c.in_ok-closed.closed.items) c.in_ok-closed.ensures.upwards)

pub returns-clause-closure : goal.returns-clause-closure
returns-clause-closure g c =
    let number = g.T.IndexStorage.number in
    let closure = c.close.ensures.closes.closure _ c.in_ok-closed.ensures.rows in
    of_made (IsKeptClosure c.args.kept c.args.grm.now c.args.core.now) (λ s. set_of number s)
    (listed_of number c.in_ok-items.items.items) c.to_itemset.result (rw c.as_slice.ensures.value at c.to_itemset.ensures)
    (record {
      closed = listed_of number c.in_ok-closed.closed.items;
      closure = rw c.items-given.ensures.items at closure;
      fits = c.in_ok-closed.ensures.fits;
      kept_is = c.in_ok-items.ensures;
    })
