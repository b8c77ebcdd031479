-- a turn for each
use Rattle.std.proofs.Common.{ℕ, List, refl}
use Rattle.std.specs.Prelude.{Contains}
use Rattle.lrspec.specs.grammars.Grammar.{Symbol}
use Rattle.lrclosing.proofs.SymbolsBehindDots.{left_at, left_none}
use Rattle.lrexchange.specs.Asked.{Asks, deepened}
use Rattle.lrexchange.specs.StoredActs.{act_of}
use Rattle.lrexchange.specs.StoredPositions.{position_of, positions_of, belows_of}
use Rattle.lrexchange.proofs.AskedInTurn.{begin_all, next_all, end_all}
use Rattle.lrexchange.proofs.BelowStates.{below_of}
use Rattle.lrexchange.proofs.GrowingAnswers.{asks_more}
use Rattle.lrexchange.proofs.acts.ask_above_all.Goals as goal

pub loop-below-init : goal.loop-below-init
loop-below-init c =
    let a = position_of c.args.position.now in
    record {
      kept = λ b k. k;
      asked = begin_all (λ (e : ℕ × List Symbol). Asks c.args.grm.now (Contains (positions_of c.args.asked.now.items)) (act_of c.args.act) a (deepened a e.0 e.1))
          (belows_of c.args.belows.now);
    }

pub loop-below-preserved : goal.loop-below-preserved
loop-below-preserved c =
    let grm = c.args.grm.now in
    let act = act_of c.args.act in
    let a = position_of c.args.position.now in
    let b = c.below-item.result in
    let old = positions_of c.loop-below.asked.items in
    let new = positions_of c.ask_above.new.asked.items in
    let left = left_at below_of c.args.belows.now c.loop-below.below-index b b c.loop-below-test.true c.below-item.is refl in
    record {
      kept = λ p k. c.in_ok-ask_above.ensures.kept p (c.loop-below.invariant.kept p k);
      asked = next_all (λ (e : ℕ × List Symbol). Asks grm (Contains old) act a (deepened a e.0 e.1)) (λ (e : ℕ × List Symbol). Asks grm (Contains new) act a (deepened a e.0 e.1))
          (belows_of c.args.belows.now) _ (below_of b) (rw left at c.loop-below.invariant.asked)
          (λ e k. asks_more (Contains old) (Contains new) c.in_ok-ask_above.ensures.kept grm act a (deepened a e.0 e.1) k)
          (c.in_ok-ask_above.ensures.asked c.if-not-branch.false);
    }

pub returns-clause-asked : goal.returns-clause-asked
returns-clause-asked c = λ t q d k.
    let a = position_of c.args.position.now in
    end_all (λ (e : ℕ × List Symbol). Asks c.args.grm.now (Contains (positions_of c.loop-below.asked.items)) (act_of c.args.act) a (deepened a e.0 e.1))
    (belows_of c.args.belows.now) _ (left_none below_of c.args.belows.now c.loop-below.below-index c.loop-below-test.false) c.loop-below.invariant.asked (q, d) k

pub returns-then-not-branch-clause-kept : goal.returns-then-not-branch-clause-kept
returns-then-not-branch-clause-kept c = λ p k. c.in_ok-ask_above.ensures.kept p (c.loop-below.invariant.kept p k)
