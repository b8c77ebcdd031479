use Rattle.std.proofs.Common.{◌≡◌, []}
use Rattle.lrgrammar.proofs.Turns.{count_more, all_more}
use Rattle.lrgrammar.proofs.grammar.lists.empty_lists.Goals as goal

pub loop-rule-preserved : goal.loop-rule-preserved
loop-rule-preserved g c = record {
  count = count_more c.loop-rule.lists.items c.push.new.self.items c.new.result c.loop-rule._rule c.in_ok-push.ensures.items c.loop-rule.invariant.count;
  empty = all_more (λ v. v.items ≡ []) c.loop-rule.lists.items c.push.new.self.items c.new.result c.in_ok-push.ensures.items c.loop-rule.invariant.empty c.new.ensures.items;
}
