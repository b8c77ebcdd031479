use Rattle.lrgrammar.proofs.LastTokens.{last_at_token, last_at_rule}
use Rattle.lrgrammar.proofs.grammar.precedences.last_token.Goals as goal
use Rattle.lrgrammar.proofs.grammar.precedences.last_token.Goals.{in-Rule, in-Token}

pub loop-symbol-preserved : goal.loop-symbol-preserved
loop-symbol-preserved g c =
    elim c.match-symbol.branch [
      | in-Rule w ↦ rw w.last-is (last_at_rule g.T.IndexStorage.number c.args.body.now c.loop-symbol.symbol-index c.symbol-item.result _ _ c.loop-symbol-test.true c.symbol-item.is w.in-Rule.is c.loop-symbol.invariant)
      | in-Token w ↦ rw w.last-is (last_at_token g.T.IndexStorage.number c.args.body.now c.loop-symbol.symbol-index c.symbol-item.result _ c.loop-symbol-test.true c.symbol-item.is w.in-Token.is)
    ]
