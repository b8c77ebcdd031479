use Rattle.std.proofs.Common.{◌++◌, ap, ◌∙◌}
use Rattle.lrtable.specs.RunAnswers.{text_of}
use Rattle.lrtree.specs.StoredTrees.{tree_of}
use Rattle.lrtree.proofs.VisitFacts.{tokens_among, tokens_are_leaves}
use Rattle.lrtree.proofs.trees.Tree.leaves.Goals as goal

pub loop-visits-init : goal.loop-visits-init
loop-visits-init g c =
    let number = g.T.IndexStorage.number in
    ap (λ l. text_of number l ++ tokens_among c.visits-visits.result) c.new-tokens.ensures.items
    ∙ ap tokens_among c.visits-visits.ensures ∙ tokens_are_leaves (tree_of number c.args.self.now)
