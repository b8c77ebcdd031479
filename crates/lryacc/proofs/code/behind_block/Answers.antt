use Rattle.std.proofs.Common.{None, subst, sym}
use Rattle.lryacc.specs.declared.code.Within.TheVariants as within
use Rattle.lryacc.specs.CodeRead.{LeadsOn}
use Rattle.lryacc.proofs.CodeByBytes.{block-ends}
use Rattle.lryacc.proofs.code.behind_block.Goals as goal

pub returns-then-byte-eq47 : goal.returns-then-byte-eq47
returns-then-byte-eq47 c =
    subst (λ star. LeadsOn c.args.byte (within.Block c.args.opened star) (within.Code None)) (sym c.if-is_star.true)
    (block-ends c.args.opened c.args.byte c.if-byte-eq47.true)
