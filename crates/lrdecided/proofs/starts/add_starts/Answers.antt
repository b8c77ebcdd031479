-- a turn for each of the other sides
use Rattle.std.proofs.Common.{refl, ap}
use Rattle.lrclosing.proofs.SymbolsBehindDots.{left_at, left_none}
use Rattle.lrdecided.specs.StoredNodes.{side_of, sides_of, states_of, node_of, nodes_of}
use Rattle.lrdecided.proofs.CollectedInTurn.{kept, added}
use Rattle.lrdecided.proofs.FoundStarts.{begin_starts, next_starts, end_starts, start_so}
use Rattle.lrdecided.proofs.starts.add_starts.Goals as goal

pub loop-other-init : goal.loop-other-init
loop-other-init c =
    record {
      kept = λ a h. h;
      so_far = begin_starts (side_of c.args.one.now) (sides_of c.args.others.now) (states_of c.args.states.now) c.args.token.0 c.args.left (nodes_of c.args.starts.now.items);
    }

pub loop-other-preserved : goal.loop-other-preserved
loop-other-preserved c =
    let y = c.other-item.result in
    let left = left_at side_of c.args.others.now c.loop-other.other-index y y c.loop-other-test.true c.other-item.is refl in
    let keeps = kept node_of _ _ _ c.in_ok-push.ensures.items in
    record {
      kept = λ a h. keeps a (c.loop-other.invariant.kept a h);
      so_far =
          next_starts (side_of c.args.one.now) (side_of y) _ _ (states_of c.args.states.now) c.args.token.0 c.args.left _ _
          (rw left at c.loop-other.invariant.so_far) keeps
          (added node_of _ _ _ c.in_ok-push.ensures.items _
          (start_so (side_of c.in_ok-first.first) (side_of c.in_ok-second.second) _ _ _ _ c.args.token.0 c.args.left c.in_ok-first.ensures c.in_ok-second.ensures
          (ap states_of c.in_ok-all.ensures.items)));
    }

pub returns-clause-added : goal.returns-clause-added
returns-clause-added c =
    end_starts (side_of c.args.one.now) _ _ _ c.args.token.0 c.args.left _ (left_none side_of c.args.others.now c.loop-other.other-index c.loop-other-test.false)
    c.loop-other.invariant.so_far
