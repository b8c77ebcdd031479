use Rattle.std.proofs.Common.{sym}
use Rattle.lryacc.proofs.numbering.Numbering.rule_of_action.Goals as goal

pub returns-in-Some : goal.returns-in-Some
returns-in-Some c = c.requires.of_actions c.args.action.span.start c.in-Some.rule.now (sym c.in-Some.ensures.value)
