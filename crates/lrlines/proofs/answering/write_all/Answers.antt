use Rattle.std.proofs.Common.{◌∙◌}
use Rattle.std.proofs.lemmas.List.{take_rest}
use Rattle.lrlines.proofs.Counts.{after_write_some}
use Rattle.lrlines.proofs.KnownBytes.{IsWritingPart-step}
use Rattle.lrlines.proofs.answering.write_all.Goals as goal

pub loop-behind-preserved : goal.loop-behind-preserved
loop-behind-preserved g c = record {
  writing =
      IsWritingPart-step _ _ _ _ _ _ c.in_ok-n.n c.loop-behind.invariant.writing
      c.in_ok-n.ensures.bytes (take_rest _ c.in_ok-n.n);
  count =
      c.in_ok-n.ensures.count ∙ after_write_some _ _ _ c.if-n-eq0.false
      ∙ c.loop-behind.invariant.count;
}
