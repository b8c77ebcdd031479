use Rattle.std.proofs.Common.{arith}
use Rattle.lrreasons.proofs.NamesRead.{rule_read, no_rule}
use Rattle.lrreasons.proofs.names.rule_name.Goals as goal

pub returns-then-from : goal.returns-then-from
returns-then-from c = rule_read c.args.grm.now c.args.rule.0 _ c.rule_name_str.ensures

pub returns-else-from : goal.returns-else-from
returns-else-from c = no_rule c.args.grm.now c.args.rule.0 (omega (arith, c.if-from.false, c.from.ensures, c.from-2.ensures, c.rules_len.ensures.value))
