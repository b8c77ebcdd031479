-- a turn for each of the first sides
use Rattle.std.proofs.Common.{refl}
use Rattle.lrclosing.proofs.SymbolsBehindDots.{left_at, left_none}
use Rattle.lrdecided.specs.StoredNodes.{side_of, sides_of, states_of, nodes_of}
use Rattle.lrdecided.proofs.FoundStarts.{begin_all_starts, next_all_starts, end_all_starts}
use Rattle.lrdecided.proofs.starts.starts.Goals as goal

pub loop-one-init : goal.loop-one-init
loop-one-init c =
    begin_all_starts (sides_of c.args.ones.now) (sides_of c.args.others.now) (states_of c.args.states.now) c.args.token.0 c.args.left (nodes_of c.new-starts.result.items)

pub loop-one-preserved : goal.loop-one-preserved
loop-one-preserved c =
    let x = c.one-item.result in
    let left = left_at side_of c.args.ones.now c.loop-one.one-index x x c.loop-one-test.true c.one-item.is refl in
    next_all_starts (side_of x) _ _ (sides_of c.args.others.now) (states_of c.args.states.now) c.args.token.0 c.args.left _ _
    (rw left at c.loop-one.invariant) c.in_ok-add_starts.ensures.kept c.in_ok-add_starts.ensures.added

pub returns : goal.returns
returns c =
    end_all_starts _ _ (sides_of c.args.others.now) (states_of c.args.states.now) c.args.token.0 c.args.left _
    (left_none side_of c.args.ones.now c.loop-one.one-index c.loop-one-test.false) c.loop-one.invariant
