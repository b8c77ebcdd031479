-- a turn for each production
use Rattle.std.proofs.Common.{map, get_or}
use Rattle.std.proofs.lemmas.List.{get_or_default}
use Rattle.lrclosing.proofs.ProductionsOfRule.{number_at, end_mapped, listed_below}
use Rattle.lrgrammar.specs.Symbols.{number_of}
use Rattle.lrdecided.specs.Moved.{expanded, expansion}
use Rattle.lrdecided.specs.StoredNodes.{node_of, nodes_of}
use Rattle.lrdecided.proofs.CollectedInTurn.{kept, added}
use Rattle.lrdecided.proofs.FoundMoves.{begin_first, next_first, end_first, so_with_one}
use Rattle.lrdecided.proofs.moves.expansions.Goals as goal

pub loop-pidx-init : goal.loop-pidx-init
loop-pidx-init c =
    begin_first c.args.grm.now (node_of c.args.node.now) _ (nodes_of c.new-moves.result.items)

pub expanded_side-requires-clause-production : goal.expanded_side-requires-clause-production
expanded_side-requires-clause-production c =
    listed_below number_of c.args.grm.now c.rule_to_prods-pidx-items.result.now c.args.rule.0 c.loop-pidx.pidx-index _
    c.rule_to_prods-pidx-items.ensures.prods c.loop-pidx-test.true
    (get_or_default c.rule_to_prods-pidx-items.result.now c.loop-pidx.pidx-index _ _ c.loop-pidx-test.true)

pub loop-pidx-preserved : goal.loop-pidx-preserved
loop-pidx-preserved c =
    let xs = c.rule_to_prods-pidx-items.result.now in
    let i = c.loop-pidx.pidx-index in
    let pidx = get_or xs i (record { 0 = 0 }) in
    let p = pidx.0 in
    let ps = map (λ p. p.0) xs in
    let a = node_of c.args.node.now in
    let old = c.loop-pidx.moves.items in
    let new = c.push.new.self.items in
    let x = c.in_ok-made.made in
    next_first c.args.grm.now a ps i p (nodes_of old) (nodes_of new) (number_at (λ p. p.0) xs i pidx c.loop-pidx-test.true (get_or_default xs i _ _ c.loop-pidx-test.true))
    c.loop-pidx.invariant (kept node_of old new x c.in_ok-push.ensures.items)
    (added node_of old new x c.in_ok-push.ensures.items (expansion c.args.grm.now a p)
    (so_with_one a (node_of x) _ (expanded c.args.grm.now a.one p) _ c.args.node.now.states.items c.in_ok-made.ensures c.as_slice-states.ensures.value c.in_ok-one.ensures))

pub returns : goal.returns
returns c =
    let xs = c.rule_to_prods-pidx-items.result.now in
    end_first c.args.grm.now (node_of c.args.node.now) (map (λ p. p.0) xs) c.args.rule.0 c.loop-pidx.pidx-index _ c.rule_to_prods-pidx-items.ensures.prods
    (end_mapped (λ p. p.0) xs c.loop-pidx.pidx-index c.loop-pidx-test.false) c.loop-pidx.invariant
