use Rattle.std.proofs.Common.{ap, length, arith}
use Rattle.lrreport.proofs.Runs.{first_run}
use Rattle.lrreport.proofs.conflicts.Checked.first_meeting.Goals as goal

pub returns-clause-run : goal.returns-clause-run
returns-clause-run c = λ grouped.
    let behind = c.split_at.ensures.back in
    rw (c.in_ok-meeting.ensures.evidence, c.split_at-2.ensures.front_len, c.split_at-2.ensures.front)
    (first_run c.args.evidence.now c.index-evidence-0.result c.together-count.result c.requires.some c.index-evidence-0.is
    (rw behind at c.together-count.ensures.inside) (rw behind at c.together-count.ensures.alike) (rw behind at (c.together-count.ensures.last grouped)))

pub returns-clause-kind : goal.returns-clause-kind
returns-clause-kind c =
    let same = c.in_ok-meeting.ensures.evidence in
    record {
      some = omega (arith, ap length same, c.split_at-2.ensures.front_len);
      decided = rw same c.in_ok-meeting.ensures.decided;
      shifting = λ grouped. rw same (c.in_ok-meeting.ensures.items grouped);
      choice = λ grouped. rw same (c.in_ok-meeting.ensures.choice grouped);
    }
