use Rattle.std.proofs.Common.{arith}
use Rattle.lrreasons.proofs.NamesRead.{rule_of_read, no_rule_of}
use Rattle.lrreasons.proofs.names.name_of_rule.Goals as goal

pub rule_name_str-requires : goal.rule_name_str-requires
rule_name_str-requires c = c.prods_len.ensures.shape.rules _ _ c.prod_to_rule.ensures.rule

pub returns-then-from : goal.returns-then-from
returns-then-from c = rule_of_read c.args.grm.now c.args.production.0 _ _ c.prod_to_rule.ensures.rule c.rule_name_str.ensures

pub returns-else-from : goal.returns-else-from
returns-else-from c = no_rule_of c.args.grm.now c.args.production.0 c.prods_len.ensures.shape (omega (arith, c.if-from.false, c.from.ensures, c.from-2.ensures, c.prods_len.ensures.value))
