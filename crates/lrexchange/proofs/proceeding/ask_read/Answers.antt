-- by us too
use Rattle.std.proofs.Common.{[], ◌∷◌, refl, ap, ◌∙◌}
use Rattle.lrspec.specs.grammars.Grammar as math
use Rattle.lrdecided.proofs.CollectedInTurn.{added}
use Rattle.lrexchange.specs.Exchanges.{at}
use Rattle.lrexchange.specs.Positions.{Even, pushed}
use Rattle.lrexchange.specs.StoredPositions.{symbols_of, turn_of, ours_of, position_of}
use Rattle.lrexchange.proofs.SamePositions.{same_position}
use Rattle.lrexchange.proofs.proceeding.ask_read.Goals as goal

pub returns : goal.returns
returns c = λ t.
    let a = position_of c.args.position.now in
    let read = pushed a.ours (math.Token c.in-Behind.token.0 ∷ []) in
    record {
      t = c.in-Behind.token.0;
      turn = ap turn_of c.in-Behind.is;
      next = added position_of _ _ _ c.in_ok-push.ensures.items (at Even a.state a.theirs read)
          (same_position Even Even a.state a.state (symbols_of c.in_ok-theirs.theirs.items) a.theirs (ours_of c.in_ok-ours.ours) read refl refl
          (ap symbols_of (c.in_ok-theirs.ensures.items ∙ c.as_slice.ensures.value)) c.in_ok-ours.ensures);
    }
