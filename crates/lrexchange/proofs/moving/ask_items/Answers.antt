-- each item of the core
use Rattle.std.specs.Prelude.{Contains}
use Rattle.lrexchange.specs.StoredPositions.{position_of, positions_of}
use Rattle.lrexchange.proofs.ToppedStacks.{open_from, none_open}
use Rattle.lrexchange.proofs.moving.ask_items.Goals as goal

pub returns-in_default : goal.returns-in_default
returns-in_default c = λ t.
    none_open c.args.graph.now (Contains (positions_of c.args.asked.now.items)) (position_of c.args.position.now) (c.is_deep.ensures c.if-not-is_deep.false)
    (rw c.as_slice.ensures.value at c.in_default.ensures)

pub returns : goal.returns
returns c = λ t.
    open_from c.args.graph.now (Contains (positions_of c.ask_open.new.asked.items)) (position_of c.args.position.now) c.in-Some.top.0
    (c.is_deep.ensures c.if-not-is_deep.false) (rw c.as_slice.ensures.value at c.in-Some.ensures) c.in_ok-ask_open.ensures
