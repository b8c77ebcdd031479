-- all stay, or one less
use Rattle.std.proofs.Common.{arith}
use Rattle.lrdecided.specs.Agreements as agreement
use Rattle.lrdecided.proofs.ImpossibleNodes.{one_spent}
use Rattle.lrdecided.proofs.impossibility.spent.Goals as goal

pub returns-in-None : goal.returns-in-None
returns-in-None c = rw c.in-None.is agreement.Spends.all

pub returns-else-number-eq0 : goal.returns-else-number-eq0
returns-else-number-eq0 c = one_spent c.args.left c.in-Some.number c.in-Some.is (omega (arith, c.if-number-eq0.false))
