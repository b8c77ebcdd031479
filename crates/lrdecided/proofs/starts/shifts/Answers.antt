-- a turn for each item of the closed state
use Rattle.std.proofs.Common.{refl, sym, ap, ◌∙◌, subst}
use Rattle.lrspec.specs.grammars.ItemSets.{Items}
use Rattle.lrspec.specs.merging.Graph.{closed_of}
use Rattle.lritems.specs.ItemsOf.{items_of}
use Rattle.lrsearches.proofs.ClosesInTurn.{none_left}
use Rattle.lrgrammar.specs.Symbols.{number_of}
use Rattle.lrdecided.specs.StoredNodes.{sides_of}
use Rattle.lrdecided.proofs.FoundStarts.{HasSidesBut, begin_sides, next_sides, end_sides}
use Rattle.lrdecided.proofs.starts.shifts.Goals as goal

pub loop-key-init : goal.loop-key-init
loop-key-init c =
    let i = c.into_iter-key-iterator.ensures.into_iter_gives in
    let set = closed_of c.args.graph.now c.args.state.0 in
    let are = ap (items_of number_of) i.0 ∙ c.closed_state.ensures.items in
    subst (λ (left : Items). HasSidesBut c.args.grm.now set left c.args.token.0 (sides_of c.new-sides.result.items)) (sym are)
    (begin_sides c.args.grm.now set c.args.token.0 (sides_of c.new-sides.result.items))

pub loop-key-preserved : goal.loop-key-preserved
loop-key-preserved c =
    let set = closed_of c.args.graph.now c.args.state.0 in
    next_sides c.args.grm.now set (items_of number_of c.next.new.self) c.in-Some.key.now.0.0 c.in-Some.key.now.1.0 c.args.token.0 c.in-Some._ctx.now
    (sides_of c.loop-key.sides.items) (sides_of c.add_side.new.sides.items) (rw c.in-Some.ensures.steps at c.loop-key.invariant) c.in_ok-add_side.ensures.kept
    c.in_ok-add_side.ensures.added

pub returns : goal.returns
returns c =
    end_sides c.args.grm.now c.args.graph.now c.args.state.0 c.args.token.0 _ _ (none_left _ (rw c.in-None.ensures.steps.0 refl)) c.loop-key.invariant
