use Rattle.std.proofs.Common.{None, subst, sym}
use Rattle.lryacc.specs.declared.code.Within.TheVariants as within
use Rattle.lryacc.specs.CodeRead.{LeadsOn}
use Rattle.lryacc.proofs.CodeByBytes.{line-ends}
use Rattle.lryacc.proofs.code.behind_line.Goals as goal

pub returns-in-None : goal.returns-in-None
returns-in-None c =
    subst (λ escape. LeadsOn c.args.byte (within.Line escape) (within.Code None)) (sym c.in-None.is)
    (line-ends c.args.byte c.if-byte-eq10.true)
