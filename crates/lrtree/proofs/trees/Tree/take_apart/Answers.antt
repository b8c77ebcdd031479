use Rattle.std.proofs.Common.{◌<◌, sym, subst}
use Rattle.lrtree.specs.StoredTrees.{forest_of}
use Rattle.lrtree.specs.Weights.{row_weight}
use Rattle.lrtree.proofs.TakenApart.{lighter_popped, last_node}
use Rattle.lrtree.proofs.trees.Tree.take_apart.Goals as goal

pub loop-tree-smaller-in-Node-tree : goal.loop-tree-smaller-in-Node-tree
loop-tree-smaller-in-Node-tree g c =
    let number = g.T.IndexStorage.number in
    let is = last_node number c.loop-tree.left.items c.pop.new.self.items c.in-Some.tree c.in-Node-tree.pidx c.in-Node-tree.children c.in-Some.ensures.items c.in-Node-tree.is in
    subst (λ ts. row_weight (forest_of number c.both-left.result.items) < row_weight ts) (sym is) c.both-left.ensures

pub loop-tree-smaller : goal.loop-tree-smaller
loop-tree-smaller g c = lighter_popped g.T.IndexStorage.number c.loop-tree.left.items c.pop.new.self.items c.in-Some.tree c.in-Some.ensures.items
