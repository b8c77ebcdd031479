use Rattle.std.proofs.Common.{◌<◌, All, subst}
use Rattle.lrparsing.proofs.parsers.Parser.new.Goals as goal

pub invariant_of-result-clause-spelled : goal.invariant_of-result-clause-spelled
invariant_of-result-clause-spelled c =
    subst (λ n. All (λ s. s.token.0 < n) c.in_ok-spellings_of.field-0.items) c.tokens_len.ensures.count c.in_ok-spellings_of.ensures.tokens
