use Rattle.std.proofs.Common.{sym, subst, arith}
use Rattle.lrrows.specs.StoredActions.{stored_action}
use Rattle.lrconflicts.specs.StoredMoves.{move_of}
use Rattle.lrlosses.specs.Losses.{Takes}
use Rattle.lrlosses.specs.StoredLosses.{place_of}
use Rattle.lrlosses.proofs.WalkedSteps.{stack_deep, cell_there, comes_to, parts_there, goes_along, takes_goes}
use Rattle.lrlosses.proofs.walks.Walk.follow.Goals as goal

pub place-place-requires : goal.place-place-requires
place-place-requires g c =
    stack_deep g.T.IndexStorage.number c.args.grm.now c.args.table.now c.args.text.now c.loop-made.invariant.come c.in_order.ensures.shape
    c.requires.table_for c.requires.named

pub returns-then-not-takes-clause-parts : goal.returns-then-not-takes-clause-parts
returns-then-not-takes-clause-parts g c =
    let number = g.T.IndexStorage.number in
    let grm = c.args.grm.now in
    let table = c.args.table.now in
    let text = c.args.text.now in
    let x = place_of number c.place-place.result in
    let m = c.index-moves-made.result in
    let at = c.place-place.ensures in
    parts_there number grm table text c.loop-made.invariant.come c.args.moves.now m x c.loop-made-test.true c.index-moves-made.is at.steps
    (comes_to number grm table text c.loop-made.invariant.come x at.steps at.used at.state at.token)
    (λ t.
    let is = c.takes.ensures.1 (subst (λ a. Takes a (move_of number m)) (sym c.action-cell.ensures.cell) t) in
    let no = c.if-not-takes.true in
    cc)
    c.loop-made.invariant.along

pub loop-made-preserved : goal.loop-made-preserved
loop-made-preserved g c =
    let number = g.T.IndexStorage.number in
    let grm = c.args.grm.now in
    let table = c.args.table.now in
    let text = c.args.text.now in
    let come = c.loop-made.invariant.come in
    let m = c.index-moves-made.result in
    let at = c.place-place.ensures in
    let taken = c.takes.ensures.0 c.if-not-takes.false in
    let x = place_of number c.place-place.result in
    let here = cell_there number grm table text come x (stored_action number c.action-cell.result) c.action-cell.ensures.cell at.state at.token in record {
      come = c.in_ok-go.ensures (takes_goes taken) c.loop-made.made come;
      along =
          goes_along number grm table text come c.args.moves.now m c.loop-made-test.true c.index-moves-made.is
          (subst (λ a. Takes a (move_of number m)) (sym here) taken) c.loop-made.invariant.along;
    }

pub returns-clause-along : goal.returns-clause-along
returns-clause-along g c = λ i l. c.loop-made.invariant.along i (omega (arith, l, c.loop-made-test.false))
