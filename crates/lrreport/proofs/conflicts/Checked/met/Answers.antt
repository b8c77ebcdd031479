use Rattle.std.proofs.Common.{arith, length}
use Rattle.std.proofs.lemmas.List.Elements.{All-push}
use Rattle.lrreport.specs.Causes.{HasKind, IsMet}
use Rattle.lrreport.proofs.OneCause.{one_more}
use Rattle.lrreport.proofs.Runs.{run_more}
use Rattle.lrreport.proofs.conflicts.Checked.met.Goals as goal

pub loop-from-preserved : goal.loop-from-preserved
loop-from-preserved c =
    let meeting = c.in_ok-meeting.meeting in
    let evidence = c.args.self.now.told.evidence.now in
    let n = length meeting.evidence.now in
    let met = c.loop-from.met.items in
    let kind = HasKind c.args.self.now in
    let rest = c.split_at.ensures.back in
    record {
      inside = omega (arith, c.in_ok-meeting.ensures.inside, c.split_at.ensures.back_len);
      whole =
          rw c.in_ok-push.ensures.items
          (one_more (λ m. m.evidence.now) met meeting evidence c.loop-from.from n (rw rest at c.in_ok-meeting.ensures.front) c.loop-from.invariant.whole);
      runs = λ grouped.
          rw c.in_ok-push.ensures.items
          (run_more (λ m. m.evidence.now) met meeting evidence c.loop-from.from n (rw rest at (c.in_ok-meeting.ensures.run grouped))
          (c.loop-from.invariant.runs grouped));
      met = rw c.in_ok-push.ensures.items (All-push IsMet met meeting c.loop-from.invariant.met c.in_ok-meeting.ensures.met);
      kinds = rw c.in_ok-push.ensures.items (All-push kind met meeting c.loop-from.invariant.kinds c.in_ok-meeting.ensures.kind);
    }
