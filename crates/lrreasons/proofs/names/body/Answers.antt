use Rattle.std.proofs.Common.{arith}
use Rattle.lrreasons.proofs.NamesRead.{no_body}
use Rattle.lrreasons.proofs.names.body.Goals as goal

pub returns-else-from : goal.returns-else-from
returns-else-from c = no_body c.args.grm.now c.args.production.0 (omega (arith, c.if-from.false, c.from.ensures, c.from-2.ensures, c.prods_len.ensures.value))
