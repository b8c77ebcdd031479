use Rattle.std.proofs.Common.{arith}
use Rattle.lrbits.proofs.ClearedBits.{whole_unused, cleared_used, cleared_unused}
use Rattle.lrbits.proofs.vob.clear_unused.Goals as goal

pub returns-then-len-gt0-clause-used : goal.returns-then-len-gt0-clause-used
returns-then-len-gt0-clause-used c = cleared_used c.args.len c.args.words.now c.requires (omega arith)

pub returns-then-len-gt0-clause-unused : goal.returns-then-len-gt0-clause-unused
returns-then-len-gt0-clause-unused c = cleared_unused c.args.len c.args.words.now c.requires (omega arith)

pub returns-else-len-gt0-clause-unused : goal.returns-else-len-gt0-clause-unused
returns-else-len-gt0-clause-unused c = whole_unused c.args.len c.args.words.now c.requires (omega arith)
