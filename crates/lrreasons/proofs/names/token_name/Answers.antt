use Rattle.std.proofs.Common.{arith}
use Rattle.lrreasons.proofs.NamesRead.{read_or, no_token}
use Rattle.lrreasons.proofs.names.token_name.Goals as goal

pub returns-then-from : goal.returns-then-from
returns-then-from c = read_or (λ s. s.now) c.args.grm.now.token_names c.args.token.0 c.token_name.result _ _ c.unwrap_or.ensures c.token_name.ensures

pub returns-else-from : goal.returns-else-from
returns-else-from c = no_token c.args.grm.now c.args.token.0 (omega (arith, c.if-from.false, c.from.ensures, c.from-2.ensures, c.tokens_len.ensures.value))
