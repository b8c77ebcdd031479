-- a turn for each item of the core
use Rattle.std.proofs.Common.{sym, ap, ◌∙◌, subst}
use Rattle.lrspec.specs.grammars.ItemSets.{Items}
use Rattle.lrspec.specs.merging.Graph.{core_of}
use Rattle.lritems.specs.ItemsOf.{items_of}
use Rattle.lrdecided.proofs.CollectedInTurn.{kept, added}
use Rattle.lrgrammar.specs.Symbols.{number_of}
use Rattle.lrexchange.specs.Exchanges.{at}
use Rattle.lrexchange.specs.Positions.{Open}
use Rattle.lrexchange.specs.StoredPositions.{position_of, positions_of}
use Rattle.lrexchange.proofs.ToppedStacks.{HasOpenBut, begin_open, next_open, end_open}
use Rattle.lrexchange.proofs.tops.ask_open.Goals as goal

pub loop-key-init : goal.loop-key-init
loop-key-init c =
    let i = c.into_iter-key-iterator.ensures.into_iter_gives in
    let set = core_of c.args.graph.now c.args.state.0 in
    let a = position_of c.args.position.now in
    let ps = positions_of c.args.asked.now.items in
    let are = ap (items_of number_of) i.0 ∙ c.core_state.ensures.items in
    subst (λ (left : Items). HasOpenBut set left a ps) (sym are) (begin_open set a ps)

pub loop-key-preserved : goal.loop-key-preserved
loop-key-preserved c =
    let a = position_of c.args.position.now in
    let old = c.loop-key.asked.items in
    let new = c.push.new.self.items in
    let p = c.in-Some.key.now.0.0 in
    let d = c.in-Some.key.now.1.0 in
    next_open (core_of c.args.graph.now c.args.state.0) (items_of number_of c.next.new.self) p d _ a (positions_of old) (positions_of new)
    (rw c.in-Some.ensures.steps at c.loop-key.invariant) (kept position_of old new _ c.in_ok-push.ensures.items)
    (added position_of old new _ c.in_ok-push.ensures.items (at (Open p d) a.state a.theirs a.ours) c.in_ok-open.ensures)

pub returns : goal.returns
returns c =
    end_open c.args.graph.now c.args.state.0 _ (position_of c.args.position.now) _ (ap (items_of number_of) c.in-None.ensures.steps.0) c.loop-key.invariant
