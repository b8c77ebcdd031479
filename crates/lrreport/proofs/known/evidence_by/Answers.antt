use Rattle.std.proofs.Common.{refl}
use Rattle.lrreport.proofs.known.evidence_by.Goals as goal

pub returns-then-splits : goal.returns-then-splits
returns-then-splits c = rw (← c.splits.ensures, c.if-splits.true) c.without_losses.ensures

pub returns-else-splits : goal.returns-else-splits
returns-else-splits c = rw (← c.splits.ensures, c.if-splits.false) refl
