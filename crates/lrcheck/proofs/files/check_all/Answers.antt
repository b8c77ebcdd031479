use Rattle.lrcheck.specs.Checked.{AreChecked}
use Rattle.lrcheck.proofs.CheckedFiles.{one_more}
use Rattle.lrcheck.proofs.files.check_all.Goals as goal

pub loop-k-init : goal.loop-k-init
loop-k-init g c = AreChecked.none

pub loop-k-preserved : goal.loop-k-preserved
loop-k-preserved g c =
    rw (c.max-status.ensures, c.max-told.ensures, c.in_ok-tell.ensures.status)
    (one_more c.args.options _ _ _ _ _ c.args.names.now c.loop-k.k _ c.loop-k.status c.tell_page.result c.in_ok-outcome.outcome
    c.loop-k-test.true c.loop-k.invariant c.in_ok-outcome.ensures c.in_ok-tell.ensures.written c.tell_page.ensures)
