use Rattle.lrclosing.specs.Leads.{rows_in}
use Rattle.lrclosing.specs.Visits.{IsRuleToDo}
use Rattle.lrclosing.proofs.ClosingUnderway.{begin_underway, next_given}
use Rattle.lrclosing.proofs.ItemsInTurn.{left_here, none_left, item_in_turn}
use Rattle.lrclosing.proofs.RowsWritten.{rows_clear}
use Rattle.lrclosing.proofs.WalksOverItems.{first_or_rest}
use Rattle.lrclosing.proofs.closer.Closer.visit_given.Goals as goal

pub loop-key-init : goal.loop-key-init
loop-key-init g c = record {
  is = c.requires.is.is;
  underway = begin_underway c.args.grm.now _ (rows_in c.args.self.now.rows.items) (IsRuleToDo c.args.grm.now c.args.self.now.todo)
      (rows_clear c.args.self.now.rows.items c.requires.clear.clear) (λ q h. c.requires.is.done h.0 h.2);
}

pub visit_item-requires-clause-fits : goal.visit_item-requires-clause-fits
visit_item-requires-clause-fits g c =
    c.requires.fits _ _ _
    (item_in_turn g.T.IndexStorage.number c.args.given.now c.loop-key.key-index c.loop-key-item.result _ c.requires.upwards c.loop-key-test.true c.loop-key-item.is)

pub loop-key-preserved : goal.loop-key-preserved
loop-key-preserved g c =
    let number = g.T.IndexStorage.number in
    let es = c.args.given.now in
    let i = c.loop-key.key-index in
    let e = c.loop-key-item.result in
    let left = left_here number es i e _ c.loop-key-test.true c.loop-key-item.is in
    let here = item_in_turn number es i e _ c.requires.upwards c.loop-key-test.true c.loop-key-item.is in
    let underway = rw left at c.loop-key.invariant.underway in
    record {
      is = c.visit_item.ensures.is;
      underway = next_given c.args.grm.now _ _ _ _ _ (number e.0.0.0) (number e.0.1.0) e.1 _ _ underway c.visit_item.ensures.visited here
          (first_or_rest _ _ e.1 _);
    }

pub returns-clause-underway : goal.returns-clause-underway
returns-clause-underway g c =
    let none = none_left g.T.IndexStorage.number c.args.given.now c.loop-key.key-index c.loop-key-test.false in
    rw none at c.loop-key.invariant.underway
