-- a turn for each production
use Rattle.std.proofs.Common.{arith, ◌∙◌}
use Rattle.lrgrammar.proofs.Turns.{index_number}
use Rattle.lrsearches.proofs.UsesInTurn.{next_uses}
use Rattle.lrsearches.proofs.uses.uses.Goals as goal

pub loop-number-preserved : goal.loop-number-preserved
loop-number-preserved g c =
    let number = g.T.IndexStorage.number in
    let n = c.loop-number.number in
    let is = index_number number g.T.IndexStorage.MAX n c.from_usize.result c.unwrap.result c.unwrap.ensures c.from_usize.ensures in
    record {
      rules = c.in_ok-add_uses.ensures.count ∙ c.loop-number.invariant.rules;
      added =
          next_uses number c.args.grm.now c.loop-number.uses.items c.add_uses.new.uses.items n c.loop-number.invariant.added
          c.in_ok-add_uses.ensures.kept (rw is at c.in_ok-add_uses.ensures.added);
    }

pub returns : goal.returns
returns g c = record {
  rules = c.loop-number.invariant.rules;
  items = λ p l. c.loop-number.invariant.added p
      (omega (arith, l, c.loop-number-test.false, c.loop-number.auto.number-end, c.to_usize-number-end.ensures.number, c.prods_len.ensures.value));
}
