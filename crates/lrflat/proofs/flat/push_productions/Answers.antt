use Rattle.lrflat.specs.Flat.{production_pair}
use Rattle.lrflat.proofs.RowsInTurn.{both, pair_is, row_more}
use Rattle.lrflat.proofs.flat.push_productions.Goals as goal

pub loop-production-preserved : goal.loop-production-preserved
loop-production-preserved g c =
    let grammar = c.args.grm.now in
    let i = c.loop-production.production in
    let pair = pair_is grammar i _ _ _ _ _ c.in-Some.ensures.1 c.from.ensures c.prod_to_rule.ensures.rule c.from-in-loop-production.ensures c.prod_len.ensures in
    let added = both c.loop-production.flat.items c.push.new.flat.items c.push-in-loop-production.new.flat.items _ _
    c.in_ok-push.ensures c.in_ok-push-2.ensures in
    row_more (production_pair grammar) i c.args.flat.now.items c.loop-production.flat.items
    c.push-in-loop-production.new.flat.items _ c.loop-production.invariant added pair
