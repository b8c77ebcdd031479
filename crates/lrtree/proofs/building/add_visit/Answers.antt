use Rattle.std.proofs.Common.{◌≡◌, ◌++◌, length, reverse, ap, ◌∙◌, subst, arith, rules}
use Rattle.std.specs.Prelude.{IsSome}
use Rattle.std.specs.Option.{option_to_list}
use Rattle.lrspec.specs.grammars.Trees as math
use Rattle.lrtree.specs.Built.{with_visit}
use Rattle.lrtree.specs.StoredTrees.{tree_of, forests_of, forest_of}
use Rattle.lrtree.specs.StoredVisits.{visit_of}
use Rattle.lrtree.proofs.BuiltRows.{row_for_token, row_for_node, token_added, node_added}
use Rattle.std.specs.Vec.{with_items}
use Rattle.std.proofs.lemmas.List.{with_items_is, length-reverse}
use Rattle.lrtree.specs.declared.trees.Tree.TheViews.{Node, the_lemmas}
use Rattle.lrtree.proofs.FoldedTrees.{tree_of_token, tree_of_node}
use Rattle.lrtree.proofs.building.add_visit.Goals as goal

pub returns-in_ok-push-in-Token : goal.returns-in_ok-push-in-Token
returns-in_ok-push-in-Token g c =
    let number = g.T.IndexStorage.number in
    let rows = c.args.rows.now.items in
    let n = c.len-last.result in
    let count : n ≡ length rows = omega (arith, c.len-last.ensures, c.args.rows.now.ok.0) in
    let some = row_for_token number rows (number c.in-Token.tidx.0) (subst (λ e. IsSome (with_visit (forests_of number rows) (visit_of number e))) c.in-Token.is c.requires) in
    ap (λ e. with_visit (forests_of number rows) (visit_of number e)) c.in-Token.is
    ∙ token_added number rows n count some c.index_mut.result.now c.push-in-Token.new.self c.index_mut.ensures.value _ c.in_ok-push-in-Token.ensures.items (number c.in-Token.tidx.0) (search (rules, the_lemmas, tree_of_token number))

pub returns-in_ok-push_tree-in-Enter : goal.returns-in_ok-push_tree-in-Enter
returns-in_ok-push_tree-in-Enter g c =
    let number = g.T.IndexStorage.number in
    let all = c.args.rows.now.items in
    let rows = c.pop.new.self.items in
    let n = c.len-last-in-Enter.result in
    let p = number c.in-Enter.pidx.0 in
    let children = c.unwrap-children.result in
    let split = c.pop.ensures.items ∙ ap (λ o. rows ++ option_to_list o) c.unwrap-children.ensures in
    let count : n ≡ length rows = omega (arith, c.len-last-in-Enter.ensures, c.pop.new.self.ok.0) in
    let some = row_for_node number all rows children p split (subst (λ e. IsSome (with_visit (forests_of number all) (visit_of number e))) c.in-Enter.is c.requires) in
    let turned = c.reverse.ensures.after ∙ ap reverse c.as_mut_slice.ensures.value in
    let reversed = with_items children c.reverse.new.self in
    let whole : reversed.items ≡ c.reverse.new.self = with_items_is children c.reverse.new.self (omega (arith, ap length turned, length-reverse children.items, children.ok.0)) in
    let by_node : tree_of number (Node c.in-Enter.pidx reversed) ≡ math.Node p (forest_of number reversed.items) = tree_of_node number c.in-Enter.pidx reversed in
    ap (λ e. with_visit (forests_of number all) (visit_of number e)) c.in-Enter.is
    ∙ node_added number rows n count some c.index_mut-in-Enter.result.now c.push_tree.new.trees c.index_mut-in-Enter.ensures.value _ c.in_ok-push_tree-in-Enter.ensures all children p split
    (by_node ∙ ap (λ l. math.Node p (forest_of number l)) (whole ∙ turned))
