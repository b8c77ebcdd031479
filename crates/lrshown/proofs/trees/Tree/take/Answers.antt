-- one more tree is taken
use Rattle.std.proofs.Common.{◌++◌, map, ◌∙◌}
use Rattle.std.proofs.lemmas.List.{map-append}
use Rattle.lrshown.specs.DrawnTrees.{last_trees, trees_before, row_nodes}
use Rattle.lrshown.proofs.Rows.{laid-push}
use Rattle.lrshown.proofs.trees.Tree.take.Goals as goal

pub loop-symbol-preserved : goal.loop-symbol-preserved
loop-symbol-preserved c =
    let symbols = map (λ s. s.now) c.loop-symbol.yielded in (
      λ ts below h.
          let k = c.take_last.ensures.laid (trees_before symbols ts) (row_nodes (last_trees symbols ts) ++ below) (c.loop-symbol.invariant.0 ts below h) in
          rw map-append (laid-push c.take_last.new.self symbols c.in-Some.symbol.now ts below k),
      c.take_last.ensures.entered ∙ c.loop-symbol.invariant.1,
    )
