-- a turn for each item of the closed state
use Rattle.std.proofs.Common.{refl, sym, ap, ◌∙◌, subst, map}
use Rattle.lrspec.specs.grammars.ItemSets.{Items}
use Rattle.lrspec.specs.merging.Graph.{closed_of}
use Rattle.lritems.specs.ItemsOf.{items_of}
use Rattle.lrdecided.proofs.CollectedInTurn.{kept, added}
use Rattle.lrgrammar.specs.Symbols.{number_of}
use Rattle.lrexchange.proofs.ToppedStacks.{HasReductionsBut, begin_reductions, next_reductions, end_reductions}
use Rattle.lrexchange.proofs.tops.reductions_on.Goals as goal

pub loop-key-init : goal.loop-key-init
loop-key-init c =
    let t = c.args.token.0 in
    let i = c.into_iter-key-iterator.ensures.into_iter_gives in
    let set = closed_of c.args.graph.now c.args.state.0 in
    let ps = map (λ p. p.0) c.new-productions.result.items in
    let are = ap (items_of number_of) i.0 ∙ c.closed_state.ensures.items in
    subst (λ (left : Items). HasReductionsBut c.args.grm.now set left t ps) (sym are) (begin_reductions c.args.grm.now set t ps)

pub loop-key-preserved-then-not-may_reduce : goal.loop-key-preserved-then-not-may_reduce
loop-key-preserved-then-not-may_reduce c =
    let ps = map (λ p. p.0) c.loop-key.productions.items in
    next_reductions c.args.grm.now (closed_of c.args.graph.now c.args.state.0) (items_of number_of c.next.new.self) c.in-Some.key.now.0.0
    c.in-Some.key.now.1.0 c.in-Some.tokens.now c.args.token.0 ps ps (rw c.in-Some.ensures.steps at c.loop-key.invariant) (λ q i. i)
    (λ e n b. absurd (c.may_reduce.ensures c.if-not-may_reduce.true e n b))

pub loop-key-preserved : goal.loop-key-preserved
loop-key-preserved c =
    let old = c.loop-key.productions.items in
    let new = c.push.new.self.items in
    next_reductions c.args.grm.now (closed_of c.args.graph.now c.args.state.0) (items_of number_of c.next.new.self) c.in-Some.key.now.0.0
    c.in-Some.key.now.1.0 c.in-Some.tokens.now c.args.token.0 (map (λ p. p.0) old) (map (λ p. p.0) new)
    (rw c.in-Some.ensures.steps at c.loop-key.invariant) (kept (λ p. p.0) old new _ c.in_ok-push.ensures.items)
    (λ e n b. added (λ p. p.0) old new _ c.in_ok-push.ensures.items c.in-Some.key.now.0.0 refl)

pub returns : goal.returns
returns c =
    end_reductions c.args.grm.now c.args.graph.now c.args.state.0 c.args.token.0 _ _ (ap (items_of number_of) c.in-None.ensures.steps.0) c.loop-key.invariant
