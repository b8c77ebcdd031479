-- one way or the other
use Rattle.std.proofs.Common.{refl}
use Rattle.lrdecided.specs.Rules as rule
use Rattle.lrdecided.specs.StoredNodes.{side_of, states_of, node_of}
use Rattle.lrdecided.proofs.impossibility.is_impossible_by.Goals as goal

pub returns-then-is_nowhere : goal.returns-then-is_nowhere
returns-then-is_nowhere c = λ t. rule.IsImpossible.nowhere (rw c.as_slice.ensures.value at (c.is_nowhere.ensures c.if-is_nowhere.true))

pub returns-then-are_apart : goal.returns-then-are_apart
returns-then-are_apart c = λ t.
    c.are_apart.ensures c.if-are_apart.true c.args.grm.now (node_of c.args.node.now) c.requires.one c.requires.other refl

pub returns-then-is_refused : goal.returns-then-is_refused
returns-then-is_refused c = λ t.
    c.is_refused.ensures c.if-is_refused.true (side_of c.args.node.now.other) (states_of c.args.node.now.states.items) c.requires.one c.requires.other

pub returns : goal.returns
returns c = λ t.
    rule.IsImpossible.swapped (c.is_refused-2.ensures t (side_of c.args.node.now.one) (states_of c.args.node.now.states.items) c.requires.other c.requires.one)
