-- taken, and impossible or cut
use Rattle.std.proofs.Common.{subst}
use Rattle.lrdecided.specs.Nodes as nodes
use Rattle.lrdecided.specs.Rules as rule
use Rattle.lrdecided.specs.Rules.{IsSettled}
use Rattle.lrdecided.proofs.taking.normed.Goals as goal

pub returns-then-branch : goal.returns-then-branch
returns-then-branch c = λ listed.
    subst (λ (a : nodes.Node). IsSettled c.args.grm.now listed a) c.in_ok-to.ensures
    (c.take_tokens.ensures c.args.grm.now listed (rule.IsSettled.impossible (c.in_ok-is_impossible.ensures c.if-branch.true)))

pub returns : goal.returns
returns c = λ listed is.
    subst (λ (a : nodes.Node). IsSettled c.args.grm.now listed a) c.in_ok-to.ensures
    (c.take_tokens.ensures c.args.grm.now listed (rule.IsSettled.listed _ is c.cut.ensures))
