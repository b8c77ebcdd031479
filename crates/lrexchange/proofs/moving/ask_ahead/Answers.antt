-- reductions and the shift
use Rattle.std.specs.Prelude.{Contains}
use Rattle.lrexchange.specs.Positions.{Even}
use Rattle.lrexchange.specs.StoredPositions.{position_of, positions_of}
use Rattle.lrexchange.proofs.GrowingAnswers.{reduction_more}
use Rattle.lrexchange.proofs.ToppedStacks.{all_moves}
use Rattle.lrexchange.proofs.moving.ask_ahead.Goals as goal

pub returns : goal.returns
returns c = λ t.
    let grm = c.args.grm.now in
    let h = c.args.graph.now in
    let a = position_of c.args.position.now in
    let old = positions_of c.ask_reductions.new.asked.items in
    let new = positions_of c.ask_shift.new.asked.items in
    record {
      deep = c.is_deep.ensures c.if-not-is_deep.false;
      all = all_moves h (Contains new) a grm c.args.token.0 Even c.in_ok-ask_shift.ensures.asked
          (λ u p f n l.
          reduction_more (Contains old) (Contains new) c.in_ok-ask_shift.ensures.kept grm h p a (c.in_ok-ask_reductions.ensures.asked c.if-not-branch.false u p f n l));
    }
