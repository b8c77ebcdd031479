use Rattle.std.proofs.Common.{sym, ap, ◌∙◌}
use Rattle.lrexamples.specs.Depths.{depth}
use Rattle.lrexamples.proofs.depths.text_depth.Goals as goal

-- what is parsed is a tree of the text
pub returns-in_ok-found-in-Tree : goal.returns-in_ok-found-in-Tree
returns-in_ok-found-in-Tree g c =
    let facts = rw c.in-Tree.is at c.in_ok-tree.ensures.tree in
    (facts.0, ap depth facts.1 ∙ sym c.in_ok-found-in-Tree.ensures)
