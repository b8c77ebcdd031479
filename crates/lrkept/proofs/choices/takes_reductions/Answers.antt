-- a turn for each item of the closed state
use Rattle.std.proofs.Common.{ap, ◌∙◌}
use Rattle.lritems.specs.ItemsOf.{items_of}
use Rattle.lrgrammar.specs.Symbols.{number_of}
use Rattle.lrkept.proofs.TakenCells.{begin_taken, next_within, next_taken, next_of_all, end_taken}
use Rattle.lrexchange.proofs.Tests.{test_fails, so, not_so}
use Rattle.lrkept.proofs.choices.takes_reductions.Goals as goal

pub loop-key-init : goal.loop-key-init
loop-key-init c =
    let i = c.into_iter-key-iterator.ensures.into_iter_gives in
    begin_taken c.args.grm.now c.args.graph.now c.args.table.now c.args.state.0 c.args.token.0 _ (ap (items_of number_of) i.0 ∙ c.closed_state.ensures.items)

pub takes_item-requires : goal.takes_item-requires
takes_item-requires c =
    next_within c.args.grm.now c.args.graph.now c.args.table.now c.args.state.0 c.args.token.0 c.closed_state.ensures.upwards
    (items_of number_of c.next.new.self) c.in-Some.key.now.0.0 c.in-Some.key.now.1.0 c.in-Some.tokens.now (rw c.in-Some.ensures.steps at c.loop-key.invariant)
    c.requires.graph c.requires.state

pub loop-key-preserved : goal.loop-key-preserved
loop-key-preserved c =
    next_taken c.args.grm.now c.args.graph.now c.args.table.now c.args.state.0 c.args.token.0 c.closed_state.ensures.upwards
    (items_of number_of c.next.new.self) c.in-Some.key.now.0.0 c.in-Some.key.now.1.0 c.in-Some.tokens.now (rw c.in-Some.ensures.steps at c.loop-key.invariant)
    (c.takes_item.ensures.0 c.if-not-takes_item.false)

pub returns-then-not-takes_item : goal.returns-then-not-takes_item
returns-then-not-takes_item c =
    not_so (λ all. test_fails c.takes_item.result c.takes_item.ensures c.if-not-takes_item.true
    (next_of_all c.args.grm.now c.args.graph.now c.args.table.now c.args.state.0 c.args.token.0 c.closed_state.ensures.upwards
    (items_of number_of c.next.new.self) c.in-Some.key.now.0.0 c.in-Some.key.now.1.0 c.in-Some.tokens.now (rw c.in-Some.ensures.steps at c.loop-key.invariant) all))

pub returns : goal.returns
returns c =
    so (end_taken c.args.grm.now c.args.graph.now c.args.table.now c.args.state.0 c.args.token.0 _
    (ap (items_of number_of) c.in-None.ensures.steps.0) c.loop-key.invariant)
