-- the steps behind go on with what those before made
use Rattle.std.proofs.Common.{map, ap}
use Rattle.lrshown.specs.DrawnTrees.{Bare, with_steps}
use Rattle.lrshown.proofs.Rows.{with_steps-append}
use Rattle.lrshown.proofs.trees.Tree.built.Goals as goal

pub returns : goal.returns
returns c =
    let file = c.args.file.now in
    let before = c.args.before.now in
    rw (with_steps-append file Bare before c.args.behind.now)
    (c.in_ok-add_all-2.ensures (with_steps file Bare before)
    (c.in_ok-add_all.ensures Bare
    (record {
      drawn = record { nodes_are = c.new.ensures.items; entered_are = ap (λ l. map (λ v. v.items) l) c.new-2.ensures.items };
      ends_are = c.new-3.ensures.items;
    })))
