use Rattle.std.proofs.Common.{string_bytes}
use Rattle.lrtext.proofs.ListSteps.{mapped_push, mapped_all}
use Rattle.lrtext.proofs.meaning.own_names.Goals as goal

-- one more name was pushed
pub loop-name-preserved : goal.loop-name-preserved
loop-name-preserved c =
    mapped_push string_bytes (λ w. w.now) c.args.names.now c.loop-name.name-index _ c.loop-name.own.items c.push.new.self.items c.in_ok-from_str.field-0 c.loop-name-test.true c.loop-name.invariant c.in_ok-push.ensures.items c.in_ok-from_str.ensures.ok

-- all were pushed
pub returns : goal.returns
returns c = mapped_all string_bytes (λ w. w.now) c.args.names.now c.loop-name.name-index c.loop-name.own.items c.loop-name-test.false c.loop-name.invariant
