-- reductions, the shift and the start rule
use Rattle.std.specs.Prelude.{Contains}
use Rattle.lrexchange.specs.Positions.{Behind, Position}
use Rattle.lrexchange.specs.StoredPositions.{position_of, positions_of}
use Rattle.lrexchange.proofs.GrowingAnswers.{reduction_more}
use Rattle.lrexchange.proofs.ToppedStacks.{all_moves}
use Rattle.lrexchange.proofs.moving.ask_before.Goals as goal

pub returns : goal.returns
returns c = λ t.
    let grm = c.args.grm.now in
    let h = c.args.graph.now in
    let a = position_of c.args.position.now in
    let first = positions_of c.ask_reductions.new.asked.items in
    let new = positions_of c.ask_start.new.asked.items in
    let keeps = λ (b : Position) (k : Contains first b). c.in_ok-ask_start.ensures.kept b (c.in_ok-ask_shift.ensures.kept b k) in
    record {
      deep = c.is_deep.ensures c.if-not-is_deep.false;
      all = all_moves h (Contains new) a grm c.args.token.0 (Behind c.args.token.0) (λ u f e. c.in_ok-ask_start.ensures.kept _ (c.in_ok-ask_shift.ensures.asked u f e))
          (λ u p f n l. reduction_more (Contains first) (Contains new) keeps grm h p a (c.in_ok-ask_reductions.ensures.asked c.if-not-branch.false u p f n l));
      start = c.in_ok-ask_start.ensures.asked;
    }
