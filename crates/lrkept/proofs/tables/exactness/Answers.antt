-- by the theorems
use Rattle.lrkept.proofs.ExactTables.{exact, exact_taking, exact_but_at_errors}
use Rattle.lrkept.proofs.KeptCells.{all_kept, all_kept_but_at_errors}
use Rattle.lrkept.proofs.tables.exactness.Goals as goal

pub returns-clause-exact : goal.returns-clause-exact
returns-clause-exact c = λ is.
    exact c.args.automaton.grm.now c.args.automaton.graph.now c.args.automaton.table.now c.in_order.ensures.shape c.requires.graph c.requires.table
    (c.in_ok-is_acyclic.ensures.acyclic c.if-not-branch.false)
    (all_kept c.args.automaton.grm.now c.args.automaton.graph.now c.args.automaton.table.now c.in_order.ensures.shape c.requires.graph c.requires.table c.in_ok-known.known c.in_ok-known.ensures.known is)

pub returns-clause-but_at_errors : goal.returns-clause-but_at_errors
returns-clause-but_at_errors c = λ is.
    exact_but_at_errors c.args.automaton.grm.now c.args.automaton.graph.now c.args.automaton.table.now c.in_order.ensures.shape c.requires.graph c.requires.table
    (c.in_ok-is_acyclic.ensures.acyclic c.if-not-branch.false)
    (all_kept_but_at_errors c.args.automaton.grm.now c.args.automaton.graph.now c.args.automaton.table.now c.in_order.ensures.shape c.requires.graph c.requires.table c.in_ok-known.known c.in_ok-known.ensures.known is)

pub returns-then-takes_all-clause-exact : goal.returns-then-takes_all-clause-exact
returns-then-takes_all-clause-exact c = λ is.
    exact_taking c.args.automaton.grm.now c.args.automaton.graph.now c.args.automaton.table.now c.in_order.ensures.shape c.requires.graph c.requires.table
    (c.in_ok-is_acyclic.ensures.acyclic c.if-not-branch.false) (c.takes_all.ensures.0 c.if-takes_all.true)
