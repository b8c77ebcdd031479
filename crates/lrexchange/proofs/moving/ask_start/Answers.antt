-- where the text ends
use Rattle.std.proofs.Common.{length}
use Rattle.lrspec.specs.grammars.Grammar.{body_of}
use Rattle.lrdecided.proofs.CollectedInTurn.{kept, added}
use Rattle.lrexchange.specs.Exchanges.{at}
use Rattle.lrexchange.specs.Positions.{Open}
use Rattle.lrexchange.specs.StoredPositions.{position_of}
use Rattle.lrexchange.proofs.moving.ask_start.Goals as goal

pub returns-clause-kept : goal.returns-clause-kept
returns-clause-kept c = kept position_of _ _ _ c.in_ok-push.ensures.items

pub returns-clause-asked : goal.returns-clause-asked
returns-clause-asked c = λ e.
    let grm = c.args.grm.now in
    let a = position_of c.args.position.now in
    added position_of _ _ _ c.in_ok-push.ensures.items (at (Open grm.start_production (length (body_of grm grm.start_production))) a.state a.theirs a.ours)
    (rw (c.prod_len.ensures, c.start_prod-start.ensures) at c.in_ok-with_turn.ensures)
