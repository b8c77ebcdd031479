-- a turn for each item of the row
use Rattle.std.proofs.Common.{get_or}
use Rattle.std.proofs.lemmas.List.{get_or_default}
use Rattle.lrsearches.specs.StoredUses.{keys_of}
use Rattle.lrsearches.proofs.UsesInTurn.{keys_left, keys_none}
use Rattle.lrgrammar.specs.Symbols.{number_of}
use Rattle.lrdecided.specs.StoredNodes.{node_of, nodes_of}
use Rattle.lrdecided.proofs.FoundMoves.{begin_outside, next_outside, end_outside}
use Rattle.lrdecided.proofs.moves.outsides.Goals as goal

pub loop-item-init : goal.loop-item-init
loop-item-init c =
    begin_outside c.args.graph.now c.args.grm.now (node_of c.args.node.now) c.args.rule.0 (keys_of number_of c.args.row.now) (nodes_of c.new-moves.result.items)

pub loop-item-preserved : goal.loop-item-preserved
loop-item-preserved c =
    let row = c.args.row.now in
    let i = c.loop-item.item-index in
    let key = get_or row i (record { 0 = 0 }, record { 0 = 0 }) in
    let left = keys_left number_of row i key c.loop-item-test.true (get_or_default row i _ _ c.loop-item-test.true) in
    next_outside c.args.graph.now c.args.grm.now (node_of c.args.node.now) c.args.rule.0 key.0.0 key.1.0 _ _
    (nodes_of c.loop-item.moves.items) (nodes_of c.add_outside.new.moves.items) (rw left at c.loop-item.invariant) c.in_ok-add_outside.ensures.kept
    c.in_ok-add_outside.ensures.added

pub returns : goal.returns
returns c =
    end_outside c.args.graph.now c.args.grm.now (node_of c.args.node.now) c.args.rule.0 _ _ (nodes_of c.loop-item.moves.items)
    (keys_none number_of c.args.row.now c.loop-item.item-index c.loop-item-test.false) c.requires c.loop-item.invariant
