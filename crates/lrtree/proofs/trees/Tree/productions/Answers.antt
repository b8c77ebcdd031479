use Rattle.std.proofs.Common.{◌++◌, map, ap, ◌∙◌}
use Rattle.lrtree.specs.StoredTrees.{tree_of}
use Rattle.lrtree.proofs.VisitFacts.{ends_among, ends_are_order}
use Rattle.lrtree.proofs.trees.Tree.productions.Goals as goal

pub loop-visits-init : goal.loop-visits-init
loop-visits-init g c =
    let number = g.T.IndexStorage.number in
    ap (λ l. map (λ p. number p.0) l ++ ends_among c.visits-visits.result) c.new-productions.ensures.items
    ∙ ap ends_among c.visits-visits.ensures ∙ ends_are_order (tree_of number c.args.self.now)
