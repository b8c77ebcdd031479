-- a turn for each production
use Rattle.std.proofs.Common.{ℕ, map, subst}
use Rattle.std.specs.Prelude.{Contains}
use Rattle.lrclosing.proofs.SymbolsBehindDots.{left_none}
use Rattle.lrdecided.proofs.CollectedInTurn.{left_there}
use Rattle.lrexchange.specs.Exchanges.{TakesReduction}
use Rattle.lrexchange.specs.StoredPositions.{position_of, positions_of}
use Rattle.lrexchange.proofs.AskedInTurn.{AllBut, begin_all, next_all, end_all}
use Rattle.lrexchange.proofs.GrowingAnswers.{reduction_more}
use Rattle.lrexchange.proofs.moving.ask_reductions_by.Goals as goal

pub loop-production-init : goal.loop-production-init
loop-production-init c =
    record {
      kept = λ b k. k;
      asked = begin_all (λ (p : ℕ). TakesReduction c.args.grm.now c.args.graph.now (Contains (positions_of c.args.asked.now.items)) p (position_of c.args.position.now))
          (map (λ p. p.0) c.args.productions.now);
    }

pub loop-production-preserved : goal.loop-production-preserved
loop-production-preserved c =
    let grm = c.args.grm.now in
    let h = c.args.graph.now in
    let a = position_of c.args.position.now in
    let ps = c.args.productions.now in
    let old = positions_of c.loop-production.asked.items in
    let new = positions_of c.ask_reduction.new.asked.items in
    record {
      kept = λ p k. c.in_ok-ask_reduction.ensures.kept p (c.loop-production.invariant.kept p k);
      asked = next_all (λ (p : ℕ). TakesReduction grm h (Contains old) p a) (λ (p : ℕ). TakesReduction grm h (Contains new) p a)
          (map (λ p. p.0) ps) _ _
          (subst (AllBut (λ (p : ℕ). TakesReduction grm h (Contains old) p a) (map (λ p. p.0) ps))
          (left_there (λ p. p.0) ps c.loop-production.production-index _ c.loop-production-test.true) c.loop-production.invariant.asked)
          (λ p k. reduction_more (Contains old) (Contains new) c.in_ok-ask_reduction.ensures.kept grm h p a k) (c.in_ok-ask_reduction.ensures.asked c.if-not-branch.false);
    }

pub returns-then-not-branch-clause-kept : goal.returns-then-not-branch-clause-kept
returns-then-not-branch-clause-kept c = λ p k. c.in_ok-ask_reduction.ensures.kept p (c.loop-production.invariant.kept p k)

pub returns-clause-asked : goal.returns-clause-asked
returns-clause-asked c = λ t p k.
    end_all (λ (p : ℕ). TakesReduction c.args.grm.now c.args.graph.now (Contains (positions_of c.loop-production.asked.items)) p (position_of c.args.position.now))
    (map (λ p. p.0) c.args.productions.now) _ (left_none (λ p. p.0) c.args.productions.now c.loop-production.production-index c.loop-production-test.false)
    c.loop-production.invariant.asked p k
