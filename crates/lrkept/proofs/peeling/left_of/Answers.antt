-- a turn for each number
use Rattle.lrkept.proofs.Peeled.{none_left, next_left, all_left}
use Rattle.lrkept.proofs.peeling.left_of.Goals as goal

pub loop-number-init : goal.loop-number-init
loop-number-init c = rw c.new-left.ensures.items (none_left c.args.pairs.now c.args.numbers.now)

pub loop-number-preserved : goal.loop-number-preserved
loop-number-preserved c =
    next_left c.args.pairs.now c.args.numbers.now c.loop-number.number-index _ c.loop-number.left.items c.add_if_left.new.left.items c.loop-number-test.true
    c.loop-number.invariant c.in_ok-add_if_left.ensures

pub returns : goal.returns
returns c =
    all_left c.args.pairs.now c.args.numbers.now c.loop-number.number-index c.loop-number.left.items c.loop-number-test.false c.loop-number.invariant
