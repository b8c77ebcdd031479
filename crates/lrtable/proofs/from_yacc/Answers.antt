use Rattle.std.proofs.Common.{arith}
use Rattle.lrtable.proofs.from_yacc.Goals as goal

pub returns-clause-built : goal.returns-clause-built
returns-clause-built g c = c.in_ok-graph.ensures.built

pub returns-clause-chain : goal.returns-clause-chain
returns-clause-chain g c =
    let counts = c.in_ok-graph.ensures.counts in
    let (chain, is, made) = counts.chain in (chain, is, omega (arith, made, counts.states))
