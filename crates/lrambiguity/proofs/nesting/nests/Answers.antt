use Rattle.std.proofs.Common.{◌≡◌, true, false, [], sym, ◌∙◌}
use Rattle.lrambiguity.proofs.NestingSteps.{nests_stands, walk_begun, walk_on, walk_stuck, walk_done, all_walked, items_there, none_told, some_told}
use Rattle.lrambiguity.proofs.nesting.nests.Goals as goal

pub loop-item-init : goal.loop-item-init
loop-item-init g c =
    walk_begun g.T.IndexStorage.number c.args.grm.now c.args.list.now c.args.items.now c.prod_to_rule.result c.in_order.ensures.shape
    (rw c.start_prod.ensures at c.prod_to_rule.ensures.rule)

pub loop-item-preserved : goal.loop-item-preserved
loop-item-preserved g c =
    let loop = c.loop-item in
    walk_on g.T.IndexStorage.number c.args.grm.now c.args.list.now c.args.items.now loop.item-index c.item-item.result c.loop-item-test.true c.item-item.is loop.left.now c.in-Some.behind.now
    loop.wanted c.in-Some.rule loop.invariant c.in-Some.ensures.some

pub returns-in_default-clause-nests : goal.returns-in_default-clause-nests
returns-in_default-clause-nests g c =
    let loop = c.loop-item in (
      λ is. let no : false ≡ true = is in cc,
      λ n.
          absurd (walk_stuck g.T.IndexStorage.number c.args.grm.now c.args.list.now c.args.items.now loop.item-index c.item-item.result c.loop-item-test.true c.item-item.is loop.left.now loop.wanted
          c.in_order.ensures.shape loop.invariant c.in_default.ensures.none n),
    )

pub returns-then-is_empty-clause-nests : goal.returns-then-is_empty-clause-nests
returns-then-is_empty-clause-nests g c =
    let number = g.T.IndexStorage.number in
    let items = c.args.items.now in
    let loop = c.loop-item in
    let left : loop.left.now ≡ [] = (none_told loop.left.now c.is_empty.result c.is_empty.ensures).0 c.if-is_empty.true in
    let told = some_told items c.is_empty-then-is_empty.result c.is_empty-then-is_empty.ensures in (
      λ is. walk_done number c.args.grm.now c.args.list.now items loop.item-index loop.left.now loop.wanted c.loop-item-test.false loop.invariant (told.0 is) left,
      λ n. told.1 (items_there number c.args.grm.now c.args.list.now items n),
    )

pub returns-then-is_empty-clause-stands : goal.returns-then-is_empty-clause-stands
returns-then-is_empty-clause-stands g c = λ is. nests_stands ((returns-then-is_empty-clause-nests g c).0 is)

pub returns-else-is_empty-clause-nests : goal.returns-else-is_empty-clause-nests
returns-else-is_empty-clause-nests g c =
    let loop = c.loop-item in (
      λ is. let no : false ≡ true = sym c.if-is_empty.false ∙ is in cc,
      λ n.
          (none_told loop.left.now c.is_empty.result c.is_empty.ensures).1
          (all_walked g.T.IndexStorage.number c.args.grm.now c.args.list.now c.args.items.now loop.item-index loop.left.now loop.wanted c.loop-item-test.false loop.invariant
          c.in_order.ensures.shape n),
    )
