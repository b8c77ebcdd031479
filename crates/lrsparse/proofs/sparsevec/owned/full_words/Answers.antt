use Rattle.std.proofs.Common.{◌∙◌, sym, arith}
use Rattle.lrsparse.proofs.MetColumns.{full_more, word_within}
use Rattle.lrsparse.proofs.sparsevec.owned.full_words.Goals as goal

pub loop-full-preserved : goal.loop-full-preserved
loop-full-preserved c =
    full_more c.args.words.now c.loop-full.full c.loop-full.invariant (sym c.word_at.ensures ∙ c.loop-full-test.true)

pub overflow_add-full : goal.overflow_add-full
overflow_add-full c = omega (arith, word_within c.args.words.now c.loop-full.full (sym c.word_at.ensures ∙ c.loop-full-test.true))

pub loop-full-smaller : goal.loop-full-smaller
loop-full-smaller c = omega (arith, word_within c.args.words.now c.loop-full.full (sym c.word_at.ensures ∙ c.loop-full-test.true))
