-- with a node of accept over all, or without one
use Rattle.std.proofs.Common.{◌≡◌, ◌-◌, [], map, take, length, slice_get, Some, None, sym, ap, ◌∙◌}
use Rattle.std.proofs.lemmas.List.{append-nil}
use Rattle.lrshown.specs.DrawnTrees.{row_nodes, trees_by, accepted, start_below}
use Rattle.lrshown.specs.StoredTrees.{IsLaid, IsBuilt}
use Rattle.lrshown.proofs.Rows.{nodes-with_last, entered-with_last}
use Rattle.lrshown.proofs.trees.Tree.inner.Goals.{in-Some-start_below, in_default-start_below}
use Rattle.lrshown.proofs.trees.Tree.inner.Goals as goal

pub returns-in_default : goal.returns-in_default
returns-in_default c =
    let file = c.args.file.now in
    let behind = c.args.behind.now in
    let none : accepted file (slice_get behind (length behind - 1)) ≡ None =
    ap (λ s. accepted file s) (sym c.last.ensures.value ∙ sym c.copied.ensures) ∙ (sym c.accepted.ensures ∙ c.in_default.is) in
    rw none c.new.ensures

pub returns : goal.returns
returns c =
    let file = c.args.file.now in
    let before = c.args.before.now in
    let behind = c.args.behind.now in
    let p = c.in-Some.production in
    let last : accepted file (slice_get behind (length behind - 1)) ≡ Some p =
    ap (λ s. accepted file s) (sym c.last.ensures.value ∙ sym c.copied.ensures) ∙ (sym c.accepted.ensures ∙ c.in-Some.is) in
    let ts = trees_by file before (take (length behind - 2) behind) in
    let built : IsBuilt c.in_ok-tree.tree ts = rw c.without_two.ensures at c.in_ok-tree.ensures in
    elim c.match-start_below.branch [
      | in-Some-start_below w ↦
          let start = w.in-Some-start_below.start in
          let below : start_below file p ≡ Some start = sym c.start_below.ensures ∙ w.in-Some-start_below.is in
          let begun : IsLaid c.in_ok-tree.tree ts [] =
          record { nodes_are = built.drawn.nodes_are ∙ sym (append-nil (row_nodes ts)); ends_are = built.ends_are } in
          let laid = w.take_last.ensures.laid ts [] begun in
          rw (w.tree-is, last, below) (record {
            nodes_are = laid.nodes_are ∙ nodes-with_last start ts;
            entered_are = ap (λ e. map (λ v. v.items) e.items) w.take_last.ensures.entered
                ∙ (built.drawn.entered_are ∙ entered-with_last start ts);
          })
      | in_default-start_below w ↦
          let below : start_below file p ≡ None = sym c.start_below.ensures ∙ w.in_default-start_below.is in
          rw (w.tree-is, last, below) built.drawn
    ]
