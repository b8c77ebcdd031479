-- where our stack is cut
use Rattle.std.proofs.Common.{refl}
use Rattle.lrdecided.proofs.CollectedInTurn.{kept, added}
use Rattle.lrexchange.specs.Exchanges.{at}
use Rattle.lrexchange.specs.StoredPositions.{ours_of, position_of, positions_of}
use Rattle.lrexchange.proofs.CutStacks.{us_asked}
use Rattle.lrexchange.proofs.acts.ask_us.Goals as goal

pub returns-clause-kept : goal.returns-clause-kept
returns-clause-kept c = kept position_of _ _ _ c.in_ok-push.ensures.items

pub returns-clause-asked : goal.returns-clause-asked
returns-clause-asked c = λ t.
    let b = position_of c.args.deeper in
    let y = ours_of c.in-Some.ours in
    us_asked c.args.grm.now (positions_of c.push.new.self.items) c.args.production.0 c.prod_len.result.0 b y c.prod_len.ensures
    (rw c.in-Some.is at c.in_ok-ours.ensures)
    (added position_of _ _ _ c.in_ok-push.ensures.items (at b.turn b.state b.theirs y) refl)
