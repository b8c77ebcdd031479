-- by what comes next
use Rattle.std.proofs.Common.{rules, arith, ◌≡◌, ◌+◌, ◌≤◌, [], map, length, get_or, slice_get, sym, ap, ◌∙◌}
use Rattle.std.proofs.lemmas.Option.{slice_get_past}
use Rattle.lrshown.specs.DrawnTrees.{row_nodes}
use Rattle.lrshown.specs.StoredTrees.{row_entered, is_over}
use Rattle.lrshown.proofs.Rows.{is_over-next}
use Rattle.lrshown.proofs.trees.Tree.is_last.Goals as goal

pub returns-in-Some : goal.returns-in-Some
returns-in-Some c = λ ts h.
    let n = c.in-Some.next in
    let es = map (λ v. v.items) c.args.self.now.entered.items in
    let at : n ≡ c.args.number + 1 = search rules in
    c.is_over.ensures
    ∙ (ap (λ o. is_over o c.entered_before.result.now) (c.node.ensures ∙ ap (λ l. slice_get l n) h.nodes_are)
    ∙ (ap (λ e. is_over (slice_get (row_nodes ts) n) e) (c.entered_before.ensures ∙ ap (λ l. get_or l n []) h.entered_are)
    ∙ (ap (λ k. is_over (slice_get (row_nodes ts) k) (get_or (row_entered 0 ts) k [])) at ∙ is_over-next ts c.args.number)))

pub returns-in-None : goal.returns-in-None
returns-in-None c = λ ts h.
    let i = c.args.number + 1 in
    let past : length (row_nodes ts) ≤ i = omega (arith, ap length h.nodes_are, c.args.self.now.nodes.ok, c.args.self.now.nodes.small, c.in-None.ensures) in
    ap (λ o. is_over o (get_or (row_entered 0 ts) i [])) (sym (slice_get_past (row_nodes ts) i past)) ∙ is_over-next ts c.args.number
