-- a turn for each token
use Rattle.std.proofs.Common.{arith}
use Rattle.lrcharts.specs.Charts.{Laid}
use Rattle.lrcharts.specs.Charts as chart
use Rattle.lrcharts.proofs.LaidRows.{token_laid, tokens_laid}
use Rattle.lrcharts.proofs.closedness.has_tokens.Goals as goal

pub loop-token-init : goal.loop-token-init
loop-token-init c = record { place = omega arith; laid = chart.Laid.none c.requires }

pub loop-token-preserved : goal.loop-token-preserved
loop-token-preserved c = record {
  place = omega (arith, c.loop-token.invariant.place);
  laid =
      token_laid c.args.tokens.now c.loop-token.token-index _ c.loop-token-test.true c.loop-token.invariant.laid
      (c.has_span.ensures.0 c.if-not-has_span.false);
}

pub returns : goal.returns
returns c = λ _.
    tokens_laid c.args.tokens.now c.loop-token.token-index c.args.from c.loop-token.place c.loop-token-test.false c.loop-token.auto.token-index-end
    c.loop-token.invariant.place c.loop-token.invariant.laid
