use Rattle.std.specs.String.{string_bytes}
use Rattle.lrparts.proofs.Images.{image_pushed, images_pushed}
use Rattle.lrparts.proofs.doubles.rule_names.Goals as goal

-- one more name was pushed
pub loop-name-preserved : goal.loop-name-preserved
loop-name-preserved c =
    image_pushed (λ n. n.now) string_bytes c.deref-name-items.result.now c.args.parts.now.rules.items c.loop-name.name-index c.name-item.result c.loop-name.names.items c.push.new.self.items c.as_str.result c.deref-name-items.ensures.value c.loop-name-test.true c.name-item.is c.loop-name.invariant c.in_ok-push.ensures.items c.as_str.ensures.value

-- all were pushed
pub returns : goal.returns
returns c =
    images_pushed (λ n. n.now) string_bytes c.deref-name-items.result.now c.args.parts.now.rules.items c.loop-name.name-index c.loop-name.names.items c.deref-name-items.ensures.value c.loop-name-test.false c.loop-name.invariant
