use Rattle.std.proofs.Common.{◌∷◌, ◌++◌, [], map, reverse, ap, ◌∙◌, sym, subst}
use Rattle.lrspec.specs.grammars.Grammar.{body_of}
use Rattle.lrtree.specs.Walks.{Remains, tree_visits_back}
use Rattle.lrtree.specs.StoredWalks.{node_of}
use Rattle.lrgrammar.specs.StoredGrammar.{numbers_of}
use Rattle.lrtree.proofs.WalkSteps.{walk_starts, there_of}
use Rattle.lrtree.proofs.walks.Walk.new.Goals as goal

pub returns : goal.returns
returns g c = λ t k.
    let number = g.T.IndexStorage.number in
    let m = c.args.grm.now in
    let p = number c.start_prod.result.0 in
    let rs = numbers_of number c.args.left.items in
    let items = c.in_ok-push.ensures.items ∙ ap (λ l. l ++ record { pidx = c.start_prod.result; missing = 1 } ∷ []) c.new-open.ensures.items in
    let opened = ap (λ l. reverse (map (node_of number) l)) items in
    let body = ap (body_of m) c.start_prod.ensures ∙ k.start in
    let start = walk_starts m p k.rule t rs (there_of m p k.rule body) body k.is_tree k.productions in
    subst (λ fs. Remains m fs rs (tree_visits_back t)) (sym opened) start
