use Rattle.std.proofs.Common.{length, ap, rules, false-eqb}
use Rattle.lrtext.proofs.NextLexemes.{goes_on_here, goes_on_behind, gap_shortens, begins_next, misfit_next}
use Rattle.lrtext.proofs.lexemes.next_lexeme.Goals as goal

-- at first nothing is skipped
pub loop-at-init : goal.loop-at-init
loop-at-init c = (c.utf8.rest, goes_on_here _)

-- a gap is not empty
pub loop-at-smaller : goal.loop-at-smaller
loop-at-smaller c = gap_shortens c.in-Gap.ensures.whole c.in-Gap.ensures.gap

-- one more gap is skipped
pub loop-at-preserved : goal.loop-at-preserved
loop-at-preserved c = (search rules, goes_on_behind _ _ _ _ c.loop-at.invariant.1 c.in-Gap.ensures.whole c.in-Gap.ensures.gap)

-- the lexeme in front comes next
pub returns-in-Found : goal.returns-in-Found
returns-in-Found c = begins_next c.loop-at.invariant.1 c.in-Found.ensures

-- nothing fits, so no lexeme begins
pub returns-in-Unfit : goal.returns-in-Unfit
returns-in-Unfit c = misfit_next c.loop-at.invariant.1 (c.in-Unfit.ensures (λ e. false-eqb _ 0 c.loop-at-test.ensures (ap length e)))
