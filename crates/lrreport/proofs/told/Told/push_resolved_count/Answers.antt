use Rattle.lrwriter.proofs.Pieces.{adds_both}
use Rattle.lrreport.proofs.WordsOfVerdicts.{resolved_some}
use Rattle.lrreport.proofs.told.Told.push_resolved_count.Goals as goal

pub returns : goal.returns
returns c =
    rw (resolved_some c.args.resolved c.args.self.now.evidence.now c.args.has_hint c.if-resolved-eq0.false)
    (adds_both (adds_both (adds_both c.write.ensures c.push_more.ensures) c.add.ensures) c.push_hint.ensures)
