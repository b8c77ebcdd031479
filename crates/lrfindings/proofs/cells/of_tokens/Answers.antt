use Rattle.std.proofs.Common.{◌≡◌, map, subst, arith}
use Rattle.std.specs.List.{range_with_len}
use Rattle.std.specs.Option.{option_map}
use Rattle.lrspec.specs.grammars.Grammar.{token_precedence, token_count}
use Rattle.lrtext.specs.StoredParts.{precedence_of}
use Rattle.lrfindings.proofs.StoredPrecedences.{one_more_listed, token_listed}
use Rattle.lrfindings.proofs.cells.of_tokens.Goals as goal

pub loop-token-preserved : goal.loop-token-preserved
loop-token-preserved c =
    one_more_listed (token_precedence c.args.grm.now) _ _ _ _ _ (rw c.unwrap.ensures at c.from_usize.ensures).1 c.token_precedence.ensures c.in_ok-push.ensures.items
    c.loop-token.invariant

pub returns : goal.returns
returns c =
    let all : c.loop-token.token ≡ token_count c.args.grm.now = omega (arith, c.loop-token-test.false, c.loop-token.auto.token-end, c.from-token-end.ensures, c.tokens_len.ensures.value) in
    token_listed c.args.grm.now _ c.tokens_len.ensures.shape
    (subst (λ n. map (option_map precedence_of) c.loop-token.precedences.items ≡ map (token_precedence c.args.grm.now) (range_with_len 0 n)) all c.loop-token.invariant)
