use Rattle.std.proofs.Common.{arith}
use Rattle.lrreasons.proofs.NamesRead.{no_text}
use Rattle.lrreasons.proofs.names.production_text.Goals as goal

pub returns-else-from : goal.returns-else-from
returns-else-from c =
    rw (← no_text c.args.grm.now c.args.production.0 c.prods_len.ensures.shape (omega (arith, c.if-from.false, c.from.ensures, c.from-2.ensures, c.prods_len.ensures.value)))
    c.from_str.ensures.ok
