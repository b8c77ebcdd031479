use Rattle.std.proofs.Common.{subst}
use Rattle.lryacc.specs.RustCodeRead.{Takes}
use Rattle.lryacc.proofs.rust_code.rust_code_end.Goals as goal

pub loop-at-init : goal.loop-at-init
loop-at-init c = c.new-reader.ensures c.args.text.now c.args.from

pub loop-at-preserved : goal.loop-at-preserved
loop-at-preserved c =
    subst (Takes c.args.text.now c.args.from c.loop-at.at) c.in-Some.is
    (c.in_ok-next.ensures c.args.from c.loop-at.invariant)

pub returns-in-None-clause-code : goal.returns-in-None-clause-code
returns-in-None-clause-code c =
    subst (Takes c.args.text.now c.args.from c.loop-at.at) c.in-None.is
    (c.in_ok-next.ensures c.args.from c.loop-at.invariant)
