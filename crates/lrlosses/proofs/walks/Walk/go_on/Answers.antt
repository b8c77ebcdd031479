use Rattle.std.proofs.Common.{sym, arith}
use Rattle.lrspec.specs.tables.Table as table
use Rattle.lrlosses.specs.StoredLosses.{place_of}
use Rattle.lrlosses.proofs.WalkedSteps.{stack_deep, cell_there, comes_to, accepts, not_yet}
use Rattle.lrlosses.proofs.walks.Walk.go_on.Goals as goal

pub place-place-requires : goal.place-place-requires
place-place-requires g c =
    stack_deep g.T.IndexStorage.number c.args.grm.now c.args.table.now c.args.text.now c.loop-made.invariant c.in_order.ensures.shape
    c.requires.table_for c.requires.named

pub returns-in-Accept-clause-none : goal.returns-in-Accept-clause-none
returns-in-Accept-clause-none g c =
    let number = g.T.IndexStorage.number in
    let grm = c.args.grm.now in
    let b = c.args.table.now in
    let text = c.args.text.now in
    let come = c.loop-made.invariant in
    let at = c.place-place.ensures in
    accepts number grm b text come c.args.steps c.loop-made-test.true
    (cell_there number grm b text come (place_of number c.place-place.result) table.Action.Accept c.in-Accept.ensures.cell at.state at.token)

pub returns-in-Error-clause-stops : goal.returns-in-Error-clause-stops
returns-in-Error-clause-stops g c =
    let number = g.T.IndexStorage.number in
    let at = c.place-place.ensures in record {
      comes =
          comes_to number c.args.grm.now c.args.table.now c.args.text.now c.loop-made.invariant (place_of number c.place-place.result) at.steps at.used
          at.state at.token;
      error = sym c.in-Error.ensures.cell;
    }

pub returns-clause-none : goal.returns-clause-none
returns-clause-none g c =
    not_yet g.T.IndexStorage.number c.args.grm.now c.args.table.now c.args.text.now c.loop-made.invariant c.args.steps (omega (arith, c.loop-made-test.false))
