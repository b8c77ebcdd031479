use Rattle.std.proofs.Common.{◌+◌, ◌∙◌, [], arith}
use Rattle.lryacc.specs.AllBodies.{ReadsBodies}
use Rattle.lryacc.specs.DeclarationsRead.{StatesDeclared}
use Rattle.lryacc.proofs.AllBodiesRead.{bodies_again, bodies_all, bodies_end, bodies_over, settled}
use Rattle.lryacc.proofs.AllDeclared.{states-all, states-end}
use Rattle.lryacc.proofs.BodiesRead.{over_stays}
use Rattle.lryacc.proofs.DeclarationsRead.{stays-stated}
use Rattle.lryacc.proofs.reader.Reader.each_rule.Goals as goal

pub loop-turn-preserved : goal.loop-turn-preserved
loop-turn-preserved c = record {
  faults = omega (arith, c.loop-turn.invariant.faults, c.rule_here-read.ensures.faults, c.settle.ensures.file.faults);
  read = λ whole.
      let one = settled c.rule_here-read.new.self c.settle.new.self (ReadsBodies 1 c.loop-turn.self c.rule_here-read.new.self) c.rule_here-read.result
      c.rule_here-read.ensures.told c.rule_here-read.ensures.read c.in_ok-settle.ensures.settled c.settle.ensures.file whole in
      let so_far = c.loop-turn.invariant.read (omega (arith, whole, c.rule_here-read.ensures.faults, c.settle.ensures.file.faults)) in
      bodies_over (c.loop-turn._turn + 1) c.args.self.now c.rule_here-read.new.self c.settle.new.self
      (bodies_again c.loop-turn._turn 1 c.args.self.now c.loop-turn.self c.rule_here-read.new.self so_far one.0)
      (over_stays one.1);
  declared = λ whole.
      let one = settled c.rule_here-read.new.self c.settle.new.self (StatesDeclared c.loop-turn.self c.rule_here-read.new.self) c.rule_here-read.result
      c.rule_here-read.ensures.told c.rule_here-read.ensures.said c.in_ok-settle.ensures.settled c.settle.ensures.file whole in
      stays-stated [] one.1 c.settle.ensures.statements
      ∙ (one.0 ∙ c.loop-turn.invariant.declared (omega (arith, whole, c.rule_here-read.ensures.faults, c.settle.ensures.file.faults)));
}

pub returns-then-is_at_end-clause-read : goal.returns-then-is_at_end-clause-read
returns-then-is_at_end-clause-read c = λ whole.
    bodies_all c.loop-turn._turn c.args.self.now c.loop-turn.self (c.loop-turn.invariant.read whole) (c.is_at_end.ensures c.if-is_at_end.true)

pub returns-clause-read : goal.returns-clause-read
returns-clause-read c = λ whole.
    bodies_end c.loop-turn._turn c.args.self.now c.loop-turn.self (c.loop-turn.invariant.read whole) (omega (arith, c.loop-turn-test.false))

pub returns-then-is_at_end-clause-said : goal.returns-then-is_at_end-clause-said
returns-then-is_at_end-clause-said c = λ whole.
    states-all c.loop-turn._turn c.args.self.now c.loop-turn.self (c.loop-turn.invariant.read whole) (c.is_at_end.ensures c.if-is_at_end.true)
    (c.loop-turn.invariant.declared whole)

pub returns-clause-said : goal.returns-clause-said
returns-clause-said c = λ whole.
    states-end c.loop-turn._turn c.args.self.now c.loop-turn.self (c.loop-turn.invariant.read whole) (omega (arith, c.loop-turn-test.false))
    (c.loop-turn.invariant.declared whole)
