-- by the answer
use Rattle.std.proofs.lemmas.Result.{IfOk-weaker}
use Rattle.lrexchange.specs.StoredPositions.{position_of, positions_of}
use Rattle.lrexchange.proofs.WonPositions.{get_mapped, won_alone, won_by_moves}
use Rattle.lrkept.proofs.checking.is_won.Goals as goal

pub returns-in-Own : goal.returns-in-Own
returns-in-Own c =
    let items = c.args.listing.now.positions.items in
    let x = c.index-position.result.now in
    IfOk-weaker c.retreats.result _ _
    (λ b k t.
    won_alone c.args.grm.now c.args.graph.now (positions_of items) c.args.place (position_of x)
    (get_mapped position_of items c.args.place x c.requires.place c.index-position.ensures) (k t))
    c.retreats.ensures

pub returns-in_default : goal.returns-in_default
returns-in_default c =
    let items = c.args.listing.now.positions.items in
    let x = c.index-position.result.now in
    IfOk-weaker c.proceeds.result _ _
    (λ b k t.
    won_by_moves c.args.grm.now c.args.graph.now (positions_of items) c.args.place (position_of x)
    (get_mapped position_of items c.args.place x c.requires.place c.index-position.ensures) (k t))
    c.proceeds.ensures
