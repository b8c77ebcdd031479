use Rattle.std.proofs.Common.{◌≡◌, length, subst, arith}
use Rattle.lryacc.specs.CodeRead.{IsCodeUpTo, Takes}
use Rattle.lryacc.proofs.code.code_end.Goals as goal

pub loop-at-init : goal.loop-at-init
loop-at-init c = c.new-reader.ensures c.args.ending c.args.text.now c.args.from

pub loop-at-preserved : goal.loop-at-preserved
loop-at-preserved c =
    subst (Takes c.args.ending c.args.text.now c.args.from c.loop-at.at) c.in-Some.is
    (c.in_ok-next.ensures c.args.from c.loop-at.invariant)

pub returns-in-None-clause-code : goal.returns-in-None-clause-code
returns-in-None-clause-code c =
    subst (Takes c.args.ending c.args.text.now c.args.from c.loop-at.at) c.in-None.is
    (c.in_ok-next.ensures c.args.from c.loop-at.invariant)

pub returns-in-None-fault_at_end-clause-code : goal.returns-in-None-fault_at_end-clause-code
returns-in-None-fault_at_end-clause-code c =
    let all : c.loop-at.at ≡ length c.args.text.now = omega arith in
    c.in-None-fault_at_end.ensures c.args.text.now c.args.from
    (subst (λ at. IsCodeUpTo c.args.ending c.args.text.now c.args.from at c.loop-at.reader) all c.loop-at.invariant)
