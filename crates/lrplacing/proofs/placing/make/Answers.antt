use Rattle.std.proofs.Common.{◌∙◌}
use Rattle.lrplacing.proofs.DraftLists.{length_pushed, others_pushed, core_pushed, closed_pushed, edges_pushed}
use Rattle.lrplacing.proofs.placing.make.Goals as goal

pub returns-clause-number : goal.returns-clause-number
returns-clause-number g c = c.len-number.ensures ∙ c.args.drafts.now.ok.0

pub returns-clause-len : goal.returns-clause-len
returns-clause-len g c = length_pushed c.args.drafts.now.items c.push.new.self.items c.new.result c.in_ok-push.ensures.items

pub returns-clause-others : goal.returns-clause-others
returns-clause-others g c = others_pushed c.args.drafts.now.items c.push.new.self.items c.new.result c.in_ok-push.ensures.items

pub returns-clause-core : goal.returns-clause-core
returns-clause-core g c = core_pushed c.args.drafts.now.items c.push.new.self.items c.new.result c.in_ok-push.ensures.items ∙ c.new.ensures.core

pub returns-clause-closed : goal.returns-clause-closed
returns-clause-closed g c = closed_pushed c.args.drafts.now.items c.push.new.self.items c.new.result c.in_ok-push.ensures.items ∙ c.new.ensures.closed

pub returns-clause-edges : goal.returns-clause-edges
returns-clause-edges g c = edges_pushed c.args.drafts.now.items c.push.new.self.items c.new.result c.in_ok-push.ensures.items c.new.ensures.edges
