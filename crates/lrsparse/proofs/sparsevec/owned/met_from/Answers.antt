use Rattle.lrsparse.proofs.MetColumns.{met_more, unmet_more, none_unmet}
use Rattle.lrsparse.proofs.sparsevec.owned.met_from.Goals as goal

pub loop-k-preserved : goal.loop-k-preserved
loop-k-preserved c =
    let words = c.args.words.now in
    let columns = c.args.columns.now in
    let d = c.args.displacement in
    let i = c.loop-k.invariant in
    let from = c.places_from-met in
    record {
      met = met_more words columns d from.result c.loop-k.k c.loop-k-test.true from.ensures c.loop-k.met i.met;
      unmet = unmet_more words columns d from.result c.loop-k.k c.loop-k-test.true from.ensures c.loop-k.met i.unmet;
    }

pub returns-then-met-clause-unmet : goal.returns-then-met-clause-unmet
returns-then-met-clause-unmet c = λ i h b. absurd (none_unmet _ i h c.if-met.true b)
