use Rattle.std.proofs.Common.{sym, ◌∙◌}
use Rattle.lrexamples.proofs.explanations.is_any_ambiguous.Goals as goal

pub returns-then-is_some : goal.returns-then-is_some
returns-then-is_some c = λ _. (
  c.reason-item.result,
  (c.loop-reason.reason-index, c.loop-reason-test.true, sym c.reason-item.is),
  sym c.is_some.ensures ∙ c.if-is_some.true,
)
