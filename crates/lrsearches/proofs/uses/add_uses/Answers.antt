-- a turn for each place of the body
use Rattle.std.proofs.Common.{refl, ◌∙◌, arith}
use Rattle.lrgrammar.proofs.Turns.{index_number}
use Rattle.lrsearches.proofs.UsesInTurn.{next_use, end_use}
use Rattle.lrsearches.proofs.uses.add_uses.Goals as goal

pub loop-place-init : goal.loop-place-init
loop-place-init g c = record { count = refl; kept = λ r p d h. h; added = λ d l. absurd (omega (arith, l)) }

pub loop-place-preserved : goal.loop-place-preserved
loop-place-preserved g c =
    let number = g.T.IndexStorage.number in
    let n = c.loop-place.place in
    let is = index_number number g.T.IndexStorage.MAX n c.from_usize.result c.unwrap.result c.unwrap.ensures c.from_usize.ensures in
    record {
      count = c.in_ok-add_item.ensures.count ∙ c.loop-place.invariant.count;
      kept = λ r p d h. c.in_ok-add_item.ensures.kept r p d (c.loop-place.invariant.kept r p d h);
      added =
          next_use number c.args.grm.now c.loop-place.uses.items c.add_item.new.uses.items (number c.args.pidx.0) n c.loop-place.invariant.added
          c.in_ok-add_item.ensures.kept (rw is at c.in_ok-add_item.ensures.added);
    }

pub returns-clause-added : goal.returns-clause-added
returns-clause-added g c =
    let number = g.T.IndexStorage.number in
    end_use number c.args.grm.now c.loop-place.uses.items (number c.args.pidx.0) c.loop-place.place
    (omega (arith, c.loop-place-test.false, c.loop-place.auto.place-end, c.to_usize-place-end.ensures.number, c.prod_len.ensures)) c.loop-place.invariant.added
