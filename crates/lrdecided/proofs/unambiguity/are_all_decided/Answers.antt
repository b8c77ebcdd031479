-- by the theorem
use Rattle.lrdecided.proofs.DecidedCells.{all_decided}
use Rattle.lrdecided.proofs.UnambiguousGrammars.{unambiguous}
use Rattle.lrdecided.proofs.unambiguity.are_all_decided.Goals as goal

pub returns-clause-decided : goal.returns-clause-decided
returns-clause-decided c = λ t. all_decided c.args.grm.now c.args.graph.now c.in_order.ensures.shape c.requires.graph (c.in_ok-are.ensures t)

pub returns-clause-unambiguous : goal.returns-clause-unambiguous
returns-clause-unambiguous c = λ t.
    unambiguous c.args.grm.now c.args.graph.now c.in_order.ensures.shape c.requires.graph c.requires.accepts
    (all_decided c.args.grm.now c.args.graph.now c.in_order.ensures.shape c.requires.graph (c.in_ok-are.ensures t))
