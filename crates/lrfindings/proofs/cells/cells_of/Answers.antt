use Rattle.lrrows.proofs.ReadableGraphs.{readable_graph}
use Rattle.lrfindings.proofs.PartedByReach.{in_another_order, left_by, reduced_by, resolved_by}
use Rattle.lrfindings.proofs.NeverReduced.{never_reduced}
use Rattle.lrfindings.proofs.cells.cells_of.Goals as goal

pub cells_in-requires-clause-graph : goal.cells_in-requires-clause-graph
cells_in-requires-clause-graph c = readable_graph _ _ c.in_order.ensures.shape c.requires

pub in_reached-requires-clause-some : goal.in_reached-requires-clause-some
in_reached-requires-clause-some c = c.requires.closures.some

pub in_reached-requires-clause-targets : goal.in_reached-requires-clause-targets
in_reached-requires-clause-targets c = λ s u x e. (c.requires.gotos.gotos s u x e).below

pub returns-clause-left : goal.returns-clause-left
returns-clause-left c =
    in_another_order _ c.in_ok-found.ensures.left
    (left_by c.args.grm.now c.args.graph.now _ c.in_ok-cells_in.ensures.resolved _ _ c.in_ok-cells_in.ensures.left c.in_ok-cells.ensures.left)

pub returns-clause-resolved : goal.returns-clause-resolved
returns-clause-resolved c =
    in_another_order _ c.in_ok-found.ensures.resolved
    (resolved_by c.args.grm.now c.args.graph.now _ c.in_ok-cells_in.ensures.resolved _ c.in_ok-cells.ensures.resolved)

pub returns-clause-unreduced : goal.returns-clause-unreduced
returns-clause-unreduced c =
    never_reduced c.args.grm.now c.args.graph.now _
    (reduced_by c.args.grm.now c.args.graph.now _ c.in_ok-cells_in.ensures.resolved _ _ c.in_ok-cells_in.ensures.reduced c.in_ok-cells.ensures.reduced) _
    c.in_ok-found.ensures.unreduced
