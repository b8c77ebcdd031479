use Rattle.std.proofs.lemmas.List.{take_all}
use Rattle.lrreasons.proofs.words.symbols_of.Goals as goal

pub returns : goal.returns
returns c = rw (take_all c.loop-token.token-index c.args.tokens.now c.loop-token-test.false) at c.loop-token.invariant
