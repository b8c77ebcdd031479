-- a turn for each pair
use Rattle.lrexchange.proofs.Tests.{test_fails}
use Rattle.lrkept.proofs.Peeled.{next_pair, no_pair}
use Rattle.lrkept.proofs.peeling.leads_into.Goals as goal

pub loop-pair-preserved : goal.loop-pair-preserved
loop-pair-preserved c =
    next_pair c.args.pairs.now c.loop-pair.pair-index c.args.number c.args.numbers.now c.loop-pair.invariant _ c.loop-pair-test.true
    (test_fails c.leads_by.result c.leads_by.ensures c.if-leads_by.false)

pub returns : goal.returns
returns c = no_pair c.args.pairs.now c.loop-pair.pair-index c.args.number c.args.numbers.now c.loop-pair.invariant c.loop-pair-test.false
