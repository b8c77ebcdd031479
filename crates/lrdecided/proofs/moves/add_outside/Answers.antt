-- the item stands before the rule, or does not
use Rattle.std.proofs.Common.{List, ap, ◌∙◌, arith}
use Rattle.lrspec.specs.grammars.Grammar.{Symbol, Rule}
use Rattle.lrgrammar.specs.Symbols.{symbol_of, number_of}
use Rattle.lrdecided.specs.Nodes.{outside}
use Rattle.lrdecided.specs.StoredNodes.{side_of, states_of, node_of}
use Rattle.lrdecided.proofs.CollectedInTurn.{kept, added}
use Rattle.lrdecided.proofs.FoundMoves.{no_rest, so_with_one, behind_rule}
use Rattle.lrdecided.proofs.moves.add_outside.Goals as goal

pub returns-then-production-count-clause-added : goal.returns-then-production-count-clause-added
returns-then-production-count-clause-added c = λ y e.
    absurd (no_rest c.args.grm.now c.args.item.0.0 c.args.item.1.0 (Rule c.args.rule.0) y
    (omega (arith, c.if-production-count.true, c.from-production.ensures, c.from-count.ensures, c.prods_len.ensures.value)) e)

pub returns-in_default-clause-added : goal.returns-in_default-clause-added
returns-in_default-clause-added c = λ y e. absurd (c.in_default.ensures.none (y, e))

pub returns-clause-kept : goal.returns-clause-kept
returns-clause-kept c = kept node_of _ _ _ c.in_ok-push.ensures.items

pub returns-clause-added : goal.returns-clause-added
returns-clause-added c = λ y e.
    let p = c.args.item.0.0 in
    let d = c.args.item.1.0 in
    let a = node_of c.args.node.now in
    let same =
    behind_rule (symbol_of number_of) c.args.grm.now p d c.args.rule.0 c.from-place.result c.in-Some.next.0 c.prod-body.result.now y c.prod-body.ensures.body
    c.from-place.ensures c.in-Some.ensures.moved e in
    let side = c.in_ok-one.ensures ∙ ap (λ (z : List Symbol). outside a.one p d z) same in (
      states_of c.in_ok-states.states.items,
      rw c.as_slice-all.ensures.value at c.in_ok-states.ensures,
      added node_of _ _ _ c.in_ok-push.ensures.items _
          (so_with_one a _ (side_of c.in_ok-one.one) (outside a.one p d y) _ c.in_ok-states.states.items c.in_ok-made.ensures c.as_slice-those.ensures.value side),
    )
