-- by the bit of a rule
use Rattle.lrkept.proofs.NullableLists.{rule_null}
use Rattle.lrkept.proofs.alone.is_nullable.Goals as goal

pub returns-then-from : goal.returns-then-from
returns-then-from c =
    rule_null c.args.grm.now c.args.firsts.now c.requires c.args.symbol c.in-Rule.ridx c.is_epsilon_set.result c.in-Rule.is c.is_epsilon_set.ensures
