use Rattle.std.proofs.Common.{◌≡◌, ℕ, Bool, ◌++◌, ◌∷◌, ◌∙◌, [], true, false, sym, subst}
use Rattle.std.specs.Prelude.{◌==◌}
use Rattle.std.specs.List.{list_any}
use Rattle.lrfindings.specs.declared.cells.Reduction.{Reduction}
use Rattle.lrfindings.proofs.ReducedPairs.{pair_passed, pair_added}
use Rattle.lrfindings.proofs.cells.add_reduced.Goals as goal

pub loop-reduction-preserved-then-not-contains : goal.loop-reduction-preserved-then-not-contains
loop-reduction-preserved-then-not-contains c =
    let is : ℕ → Bool = λ p. list_any (λ q. q == p) c.args.made.now in
    pair_passed is c.args.state c.args.reductions.now c.loop-reduction.reduction-index c.reduction-item.result c.loop-reduction-test.true c.args.reduced.now.items _
    (subst (λ (r : Reduction). is r.production ≡ false) c.reduction-item.is (sym c.contains.ensures.value ∙ c.if-not-contains.true)) c.loop-reduction.invariant

pub loop-reduction-preserved : goal.loop-reduction-preserved
loop-reduction-preserved c =
    let is : ℕ → Bool = λ p. list_any (λ q. q == p) c.args.made.now in
    pair_added is c.args.state c.args.reductions.now c.loop-reduction.reduction-index c.reduction-item.result c.loop-reduction-test.true c.args.reduced.now.items _ _
    (subst (λ (r : Reduction). is r.production ≡ true) c.reduction-item.is (sym c.contains.ensures.value ∙ c.if-not-contains.false))
    (subst (λ (r : Reduction). c.push.new.self.items ≡ c.loop-reduction.reduced.items ++ (c.args.state, r.production) ∷ []) c.reduction-item.is c.in_ok-push.ensures.items)
    c.loop-reduction.invariant
