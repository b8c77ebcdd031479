use Rattle.std.proofs.Common.{arith}
use Rattle.std.proofs.lemmas.Bool.Decides.{nat_tests}
use Rattle.lrspec.specs.grammars.Trees as math
use Rattle.lrtree.specs.StoredTrees.{forest_of}
use Rattle.lrtree.proofs.WeightFacts.{lighter_without}
use Rattle.lrtree.proofs.TakenApart.{lighter_both}
use Rattle.lrtree.proofs.trees.both.Goals as goal

pub unwrap-requires : goal.unwrap-requires
unwrap-requires g c = c.push.ensures.succeeds c.requires

pub returns-then-is_empty-2 : goal.returns-then-is_empty-2
returns-then-is_empty-2 g c =
    let number = g.T.IndexStorage.number in
    lighter_without (forest_of number c.args.left.items) (math.Node (number c.args.pidx.0) (forest_of number c.args.children.items))

pub returns : goal.returns
returns g c =
    let number = g.T.IndexStorage.number in
    let first = c.index_mut.result.now in
    let pushed = rw (c.unwrap.ensures, c.replace-first.ensures.value) at c.push.ensures.items in
    lighter_both number c.args.left.items c.args.children.items c.args.pidx first c.replace-first.new.dest c.push.new.self
    (grind (arith, nat_tests, c.if-is_empty.ensures, c.args.left.ok.0)) (grind (arith, nat_tests, c.if-is_empty-2.ensures, c.args.children.ok.0))
    c.index_mut.ensures.value pushed
