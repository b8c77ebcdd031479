-- as long as both have a token
use Rattle.std.proofs.Common.{subst}
use Rattle.lrdecided.specs.Nodes as nodes
use Rattle.lrdecided.specs.Rules.{IsSettled}
use Rattle.lrdecided.proofs.taking.take_tokens.Goals as goal

pub loop-init : goal.loop-init
loop-init c = λ grm listed k. k

pub loop-preserved : goal.loop-preserved
loop-preserved c = λ grm listed k. c.loop.invariant grm listed (c.take_token.ensures.settled c.loop-test.true grm listed k)

pub loop-smaller : goal.loop-smaller
loop-smaller c = c.take_token.ensures.shorter c.loop-test.true

pub returns : goal.returns
returns c = λ grm listed k.
    let P : nodes.Node → Type 0 = λ a. IsSettled grm listed a in
    c.loop.invariant grm listed (subst P (c.take_token.ensures.same c.loop-test.false) k)
