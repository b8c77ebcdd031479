use Rattle.std.proofs.Common.{arith, length-set}
use Rattle.std.proofs.lemmas.List.{get_or-set_other}
use Rattle.lrgrammar.proofs.ProductionLists.{one_more}
use Rattle.lrgrammar.proofs.grammar.lists.add_to.Goals as goal

pub index_mut-requires : goal.index_mut-requires
index_mut-requires g c = omega (arith, c.args.lists.now.ok.0)

pub returns-clause-count : goal.returns-clause-count
returns-clause-count g c = length-set c.args.lists.now.items c.args.rule c.push.new.self

-- the list of the rule has the production more
pub returns-clause-added : goal.returns-clause-added
returns-clause-added g c d =
    one_more c.args.lists.now.items c.args.rule c.index_mut.result.now c.push.new.self d c.args.pidx c.requires c.index_mut.ensures.value c.in_ok-push.ensures.items

pub returns-clause-others : goal.returns-clause-others
returns-clause-others g c k d other = get_or-set_other c.args.lists.now.items c.args.rule k c.push.new.self d other

pub returns-in_err-push-clause-count : goal.returns-in_err-push-clause-count
returns-in_err-push-clause-count g c = length-set c.args.lists.now.items c.args.rule c.push.new.self

pub returns-in_err-push-clause-others : goal.returns-in_err-push-clause-others
returns-in_err-push-clause-others g c k d other = get_or-set_other c.args.lists.now.items c.args.rule k c.push.new.self d other
