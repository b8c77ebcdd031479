-- the way is at its end, and the other, or the next token, is not
use Rattle.std.proofs.Common.{sym, ◌∙◌}
use Rattle.lrdecided.specs.Rules as rule
use Rattle.lrdecided.proofs.impossibility.is_refused.Goals as goal

pub returns-then-cannot_begin : goal.returns-then-cannot_begin
returns-then-cannot_begin c = λ t y states b k.
    let (l, s) = c.has_more.ensures c.if-has_more.true in
    rule.IsImpossible.ended s (c.is_at_end.ensures c.if-not-is_at_end.false)
    (rw (c.from-end.ensures, c.eof_token_idx.ensures) at (c.cannot_begin.ensures c.if-cannot_begin.true c.args.grm.now y.symbols k))

pub returns : goal.returns
returns c = λ t y states b k.
    let (u, e, d) = c.is_another.ensures t in
    rule.IsImpossible.unended u e (λ i. d (i ∙ sym c.eof_token_idx.ensures ∙ sym c.from-end.ensures)) (c.is_at_end.ensures c.if-not-is_at_end.false)
