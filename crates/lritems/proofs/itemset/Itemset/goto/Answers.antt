use Rattle.std.proofs.Common.{refl}
use Rattle.lrgrammar.specs.Symbols.{symbol_of}
use Rattle.lrclosing.proofs.WalksOverItems.{found_all, first_or_rest}
use Rattle.lritems.proofs.GotoUnderway.{begin_moving, end_moving, skip_moving, move_moving, fits_to_add}
use Rattle.lritems.proofs.itemset.Itemset.goto.Goals as goal

pub loop-key-init : goal.loop-key-init
loop-key-init g c =
    let number = g.T.IndexStorage.number in
    let i = c.into_iter-key-iterator.ensures.into_iter_gives in
    record {
      found = rw i.0 (found_all number g.T.Ord.cmp g.met.T.IndexStorage.ordered c.args.self.now.items.entries c.args.self.now.items.entries i.6);
      moving = begin_moving c.args.grm.now _ _ _ (symbol_of number c.args.sym.now) c.new-moved.ensures (rw i.0 refl);
    }

pub dot_behind-requires : goal.dot_behind-requires
dot_behind-requires g c =
    let found = rw c.in-Some.ensures.steps at c.loop-key.invariant.found in
    (c.requires _ _ c.in-Some.ctx.now found.0).production

pub loop-key-preserved : goal.loop-key-preserved
loop-key-preserved g c =
    let number = g.T.IndexStorage.number in
    let found = rw c.in-Some.ensures.steps at c.loop-key.invariant.found in
    let moving = rw c.in-Some.ensures.steps at c.loop-key.invariant.moving in
    record {
      found = found.1;
      moving = skip_moving c.args.grm.now _ _ _ _ (symbol_of number c.args.sym.now) (number c.in-Some.key.now.0.0) (number c.in-Some.key.now.1.0) moving
          (first_or_rest _ _ c.in-Some.ctx.now _) c.in_default.ensures.none;
    }

pub add-requires : goal.add-requires
add-requires g c =
    let found = rw c.in-Some.ensures.steps at c.loop-key.invariant.found in
    fits_to_add c.args.grm.now _ _ _ c.in-Some.ctx.now c.loop-key.invariant.moving.fits (c.requires _ _ c.in-Some.ctx.now found.0).bits

pub loop-key-preserved-in_ok-add : goal.loop-key-preserved-in_ok-add
loop-key-preserved-in_ok-add g c =
    let number = g.T.IndexStorage.number in
    let found = rw c.in-Some.ensures.steps at c.loop-key.invariant.found in
    let moving = rw c.in-Some.ensures.steps at c.loop-key.invariant.moving in
    record {
      found = found.1;
      moving = move_moving c.args.grm.now _ _ _ _ _ (symbol_of number c.args.sym.now) (number c.in-Some.key.now.0.0) (number c.in-Some.key.now.1.0) c.in-Some.ctx.now
          c.requires moving (first_or_rest _ _ c.in-Some.ctx.now _) c.in-Some-dot_behind.ensures.found found.0
          (rw c.in-Some-dot_behind.ensures.moved at c.in_ok-add.ensures.here) (rw c.in-Some-dot_behind.ensures.moved at c.in_ok-add.ensures.others);
    }

pub returns-clause-moved : goal.returns-clause-moved
returns-clause-moved g c =
    let number = g.T.IndexStorage.number in
    end_moving c.args.grm.now _ _ _ (symbol_of number c.args.sym.now) c.loop-key.invariant.moving (rw c.in-None.ensures.steps.0 refl)

pub returns-clause-fits : goal.returns-clause-fits
returns-clause-fits g c = c.loop-key.invariant.moving.fits
