-- by the edge
use Rattle.lrkept.proofs.TakenCells.{no_shift, one_shift}
use Rattle.lrexchange.proofs.Tests.{so}
use Rattle.lrkept.proofs.choices.takes_shift.Goals as goal

pub returns-in-None : goal.returns-in-None
returns-in-None c =
    so (no_shift c.args.graph.now c.args.table.now c.args.state.0 c.args.token.0 c.in-None.ensures)

pub returns-in-Some : goal.returns-in-Some
returns-in-Some c =
    one_shift c.args.graph.now c.args.table.now c.args.state.0 c.args.token.0 _ c.takes_at.result c.in-Some.ensures c.takes_at.ensures
