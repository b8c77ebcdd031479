use Rattle.std.proofs.lemmas.List.{take-append-drop}
use Rattle.lrgrammar.specs.Symbols.{symbol_of}
use Rattle.lrambiguity.proofs.DeadEnds.{body_there}
use Rattle.std.proofs.Common.{◌≡◌, ◌-◌, [], ◌∷◌, ◌++◌, length, map, take, drop, sym, ap, ◌∙◌, refl, arith}
use Rattle.lrgrammar.specs.declared.idx.Symbol.TheVariants as code
use Rattle.lrtree.proofs.FoldedTrees.{tree_of_node}
use Rattle.lrambiguity.proofs.SymbolTests.{list_ends, end_tested}
use Rattle.lrambiguity.proofs.ReplaySteps.{count_of_roots, reduce_made}
use Rattle.lrambiguity.proofs.replays.Replay.reduce.Goals as goal

pub split_off-requires : goal.split_off-requires
split_off-requires g c =
    let roots = c.args.self.now.roots in
    let trees = c.args.self.now.trees in
    let paired = count_of_roots g.T.IndexStorage.number c.args.grm.now roots.items trees.items c.requires in
    omega (arith, paired, c.if-not-ends_with.ensures.bound refl, ap length c.deref.ensures.value, trees.ok.0)

pub returns-clause-made : goal.returns-clause-made
returns-clause-made g c = λ _ text ms.
    let number = g.T.IndexStorage.number in
    let law = g.met.T.IndexStorage in
    let trees = c.args.self.now.trees.items in
    let roots = c.args.self.now.roots in
    let now = c.push.new.self in
    let is = c.in_ok-push.ensures in
    let body = c.prod-body.result.now in
    let children = c.in_ok-children.children in
    let front = take (length roots.items - length body) roots.items in
    let ends =
    list_ends number g.T.PartialEq.eq law.same law.injective _
    (record { rules = λ r s. refl; rule_token = λ r t. refl; token_rule = λ t r. refl; tokens = λ t u. refl }) c.deref.result.now body c.if-not-ends_with.ensures.value in
    let split : roots.items ≡ front ++ body = rw c.deref.ensures.value at ends in
    let kept : c.truncate.new.self.items ≡ front = c.truncate.ensures.items ∙ ap (λ n. take n roots.items) (omega (arith, c.len.ensures, roots.ok.0)) in
    rw is.used
    (reduce_made number c.args.grm.now ms roots.items trees (take c.args.self.now.used text) (number c.args.pidx.0) c.prod_to_rule.result body front now.roots.items _
    c.split_off.new.trees.items children.items now.trees.items c.prod-body.ensures.body c.prod_to_rule.ensures.rule split c.in_ok-children.ensures.trees
    (omega (arith, c.in_ok-children.ensures.count, children.ok.0)) (tree_of_node number c.args.pidx children) is.trees
    (is.roots ∙ ap (λ l. l ++ code.Rule c.prod_to_rule.result ∷ []) kept))

pub returns-then-from-clause-nowhere : goal.returns-then-from-clause-nowhere
returns-then-from-clause-nowhere g c = λ _ text ms rest made t a.
    let used = c.args.self.now.used in
    let there =
    body_there c.in_order.ensures.shape made text (drop used text) (sym (take-append-drop used text)) (g.T.IndexStorage.number c.args.pidx.0) rest t a in
    omega (arith, there.0, c.if-from.true, c.from.ensures, c.from-2.ensures, c.start_prod.ensures)

pub returns-then-not-ends_with-clause-nowhere : goal.returns-then-not-ends_with-clause-nowhere
returns-then-not-ends_with-clause-nowhere g c = λ _ text ms rest made t a.
    let number = g.T.IndexStorage.number in
    let law = g.met.T.IndexStorage in
    let used = c.args.self.now.used in
    let there = body_there c.in_order.ensures.shape made text (drop used text) (sym (take-append-drop used text)) (number c.args.pidx.0) rest t a in
    let front = there.1.0 in
    let split = ap (map (symbol_of number)) c.deref.ensures.value ∙ there.1.1 ∙ ap (λ l. front ++ l) (sym c.prod-body.ensures.body) in
    let ends =
    end_tested number g.T.PartialEq.eq law.same law.injective _
    (record { rules = λ r s. refl; rule_token = λ r t. refl; token_rule = λ t r. refl; tokens = λ t u. refl }) c.deref.result.now c.prod-body.result.now c.ends_with.result front
    c.ends_with.ensures.value split in
    let no = c.if-not-ends_with.true in
    cc
