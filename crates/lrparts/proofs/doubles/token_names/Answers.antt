use Rattle.std.proofs.Common.{[], ap, ◌∙◌}
use Rattle.std.specs.String.{string_bytes}
use Rattle.lrtext.specs.StoredParts.{token_of}
use Rattle.lrtext.proofs.ListSteps.{pushed_behind, behind_all}
use Rattle.lrparts.proofs.doubles.token_names.Goals as goal

-- one more name was pushed
pub loop-token-preserved : goal.loop-token-preserved
loop-token-preserved c =
    pushed_behind (λ n. n.now) (λ t. t.name) token_of c.deref-token-items.result.now c.args.parts.now.tokens.items c.loop-token.token-index c.token-item.result [] c.loop-token.names.items c.push.new.self.items c.as_str.result c.deref-token-items.ensures.value c.loop-token-test.true c.loop-token.invariant c.in_ok-push.ensures.items (c.as_str.ensures.value ∙ ap (λ t. string_bytes t.name) c.token-item.is)

-- all were pushed
pub returns : goal.returns
returns c =
    behind_all (λ n. n.now) (λ t. t.name) token_of c.deref-token-items.result.now c.args.parts.now.tokens.items c.loop-token.token-index [] c.loop-token.names.items c.deref-token-items.ensures.value c.loop-token-test.false c.loop-token.invariant
