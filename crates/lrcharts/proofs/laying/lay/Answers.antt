-- a turn for each symbol
use Rattle.lrcharts.proofs.LaidRows.{last_laid}
use Rattle.lrcharts.proofs.laying.lay.Goals as goal

pub loop-symbol-preserved : goal.loop-symbol-preserved
loop-symbol-preserved c = record {
  ends = rw c.swap.ensures.x_after c.follow.ensures.places;
  next = rw c.swap.ensures.y_after c.loop-symbol.invariant.ends;
  laid = λ to laid.
      let (k, before, last) = last_laid c.args.symbols.now c.loop-symbol.symbol-index _ c.loop-symbol-test.true laid in
      rw c.swap.ensures.x_after (c.follow.ensures.added k to (c.loop-symbol.invariant.laid k before) last);
}
