use Rattle.std.proofs.Common.{ap}
use Rattle.std.specs.Option.{option_map}
use Rattle.lrspec.specs.texts.Parts.{PartToken}
use Rattle.lrtext.specs.StoredParts.{token_of, precedence_of}
use Rattle.lrgrammar.proofs.Turns.{maps_more}
use Rattle.lrgrammar.proofs.grammar.make.token_precedences.Goals as goal

pub loop-token-preserved : goal.loop-token-preserved
loop-token-preserved c =
    maps_more (option_map precedence_of) (λ (t : PartToken). t.precedence) token_of c.deref-token-items.result.now c.args.parts.now.tokens.items c.loop-token.token-index c.token-item.result c.loop-token.precedences.items c.push.new.self.items c.token-item.result.precedence c.deref-token-items.ensures.value c.loop-token-test.true (ap (λ t. option_map precedence_of t.precedence) c.token-item.is) c.in_ok-push.ensures.items c.loop-token.invariant
