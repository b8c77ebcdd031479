use Rattle.std.proofs.Common.{◌∙◌, arith, sym}
use Rattle.std.proofs.lemmas.List.{take_all}
use Rattle.lrshown.specs.DecidedEntries.{is_decided}
use Rattle.lrreport.proofs.Filtered.{kept_more, passed_over}
use Rattle.lrreport.proofs.notes.decided.Goals.{then-is_decided+in_ok-push, else-is_decided}
use Rattle.lrreport.proofs.notes.decided.Goals as goal

pub loop-evidence-preserved : goal.loop-evidence-preserved
loop-evidence-preserved c =
    let all = c.args.meeting.now in
    let i = c.loop-evidence.evidence-index in
    let one = c.evidence-item.result in
    let old = c.loop-evidence.tokens.items in
    elim c.if-is_decided.branch [
      | then-is_decided+in_ok-push w ↦
          rw w.tokens-is
          (kept_more is_decided (λ e. e.entry.token) all i one old w.push.new.self.items c.loop-evidence-test.true c.evidence-item.is
          (sym c.is_decided.ensures.told ∙ w.if-is_decided.true) c.loop-evidence.invariant w.in_ok-push.ensures.items)
      | else-is_decided w ↦
          rw w.tokens-is
          (passed_over is_decided (λ e. e.entry.token) all i one old c.loop-evidence-test.true c.evidence-item.is
          (sym c.is_decided.ensures.told ∙ w.if-is_decided.false) c.loop-evidence.invariant)
    ]

pub returns : goal.returns
returns c = rw (take_all c.loop-evidence.evidence-index c.args.meeting.now (omega arith)) at c.loop-evidence.invariant
