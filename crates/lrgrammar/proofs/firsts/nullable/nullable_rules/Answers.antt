use Rattle.std.proofs.Common.{◌∙◌}
use Rattle.std.proofs.lemmas.Result.{IfOk-from_err}
use Rattle.lrgrammar.proofs.NullableRules.{nullable_bits}
use Rattle.lrgrammar.proofs.firsts.nullable.nullable_rules.Goals as goal

pub returns-clause-nullable : goal.returns-clause-nullable
returns-clause-nullable g c =
    nullable_bits c.args.grm.now c.grow_nullable.new.known (c.grow_nullable.ensures.sound c.loop.invariant.sound) (c.grow_nullable.ensures.done c.loop-test.false)

pub grow_nullable-requires : goal.grow_nullable-requires
grow_nullable-requires g c = c.loop.invariant.rules

pub loop-smaller : goal.loop-smaller
loop-smaller g c = c.grow_nullable.ensures.grown c.loop-test.true

pub loop-preserved : goal.loop-preserved
loop-preserved g c = record {
  rules = c.grow_nullable.ensures.rules ∙ c.loop.invariant.rules;
  sound = c.grow_nullable.ensures.sound c.loop.invariant.sound;
}

pub returns-clause-rules : goal.returns-clause-rules
returns-clause-rules g c = c.grow_nullable.ensures.rules ∙ c.loop.invariant.rules

pub returns-clause-shape : goal.returns-clause-shape
returns-clause-shape g c = c.rules_len.ensures.shape

pub returns-in_err-known-clause-rules : goal.returns-in_err-known-clause-rules
returns-in_err-known-clause-rules g c = IfOk-from_err c.from_residual.result _ c.from_residual.ensures.0

pub returns-in_err-known-clause-nullable : goal.returns-in_err-known-clause-nullable
returns-in_err-known-clause-nullable g c = IfOk-from_err c.from_residual.result _ c.from_residual.ensures.0

pub returns-in_err-known-clause-shape : goal.returns-in_err-known-clause-shape
returns-in_err-known-clause-shape g c = c.rules_len.ensures.shape
