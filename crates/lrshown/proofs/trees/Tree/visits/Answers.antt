-- one more node
use Rattle.std.proofs.Common.{arith, ◌≡◌, ◌++◌, ◌+◌, ◌<◌, [], ◌∷◌, length, map, reverse, get_or, drop, sym, ap, ◌∙◌, append_assoc}
use Rattle.std.proofs.lemmas.List.{append-nil, drop_all}
use Rattle.lrshown.specs.declared.trees.Node.TheVariants as code
use Rattle.lrshown.specs.declared.trees.Visit.TheVariants.{Enter}
use Rattle.lrgrammar.specs.declared.grammar.PartSymbol.TheVariants.{Rule}
use Rattle.std.proofs.Common.{◌≤◌}
use Rattle.lrshown.specs.DrawnTrees.{row_nodes}
use Rattle.lrshown.specs.StoredTrees.{visit_of}
use Rattle.lrshown.proofs.Rows.{visits_by, visits_by-next, visits_by-row}
use Rattle.lrshown.proofs.trees.Tree.visits.Goals as goal

pub loop-number-preserved : goal.loop-number-preserved
loop-number-preserved c =
    let ns = c.args.self.now.nodes.items in
    let es = map (λ v. v.items) c.args.self.now.entered.items in
    let i = c.loop-number.number in
    let d = code.Leaf (Rule 0) in
    let before = c.loop-number.visits.items in
    let enters = map Enter (reverse (get_or es i [])) in
    let pushed : c.push.new.self.items ≡ before ++ (enters ++ visit_of i (get_or ns i d) ∷ []) =
    c.in_ok-push.ensures.items
    ∙ (ap (λ l. l ++ c.visit.result ∷ []) (c.in_ok-push_entered.ensures ∙ ap (λ l. before ++ map Enter (reverse l)) c.entered_before.ensures)
    ∙ (append_assoc before enters (c.visit.result ∷ [])
    ∙ ap (λ v. before ++ (enters ++ v ∷ [])) (c.visit.ensures ∙ ap (λ l. visit_of i (get_or l i d)) c.deref-node-items.ensures.value))) in
    let within : i < length ns = omega (arith, c.loop-number-test.true, ap length c.deref-node-items.ensures.value) in
    let rest = visits_by (i + 1) (drop (i + 1) ns) (drop (i + 1) es) in
    c.loop-number.invariant
    ∙ (ap (λ l. before ++ l) (visits_by-next ns es i d within)
    ∙ (sym (append_assoc before (enters ++ visit_of i (get_or ns i d) ∷ []) rest) ∙ ap (λ l. l ++ rest) (sym pushed)))

pub returns : goal.returns
returns c = λ ts h.
    let ns = c.args.self.now.nodes.items in
    let es = map (λ v. v.items) c.args.self.now.entered.items in
    let i = c.loop-number.number in
    let all : length ns ≤ i = omega (arith, c.loop-number-test.false, ap length c.deref-node-items.ensures.value) in
    sym (append-nil c.loop-number.visits.items)
    ∙ (ap (λ l. c.loop-number.visits.items ++ visits_by i l (drop i es)) (sym (drop_all i ns all))
    ∙ (sym c.loop-number.invariant
    ∙ (ap (λ l. visits_by 0 l es) h.nodes_are ∙ (ap (λ l. visits_by 0 (row_nodes ts) l) h.entered_are ∙ visits_by-row 0 ts))))
