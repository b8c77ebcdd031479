use Rattle.std.proofs.Common.{map}
use Rattle.lrspec.specs.texts.Meaning.{token_in}
use Rattle.lrtext.specs.StoredParts.{token_of}
use Rattle.lrtext.specs.StoredLevels.{leveled_of}
use Rattle.lrtext.proofs.ListSteps.{pushed_more, pushed_all}
use Rattle.lrtext.proofs.MadeParts.{token_made}
use Rattle.lrtext.proofs.meaning.part_tokens.Goals as goal

-- one more token was pushed
pub loop-token-preserved : goal.loop-token-preserved
loop-token-preserved c =
    let levels = map leveled_of c.args.leveled.now in
    pushed_more token_of (token_in levels) (λ w. w.now) c.args.names.now c.loop-token.token-index _ c.loop-token.tokens.items c.push.new.self.items _ c.loop-token-test.true c.loop-token.invariant c.in_ok-push.ensures.items (token_made levels _ c.in_ok-name.name c.find_precedence-precedence.result c.in_ok-name.ensures.ok c.find_precedence-precedence.ensures)

-- all tokens were pushed
pub returns : goal.returns
returns c = pushed_all token_of (token_in (map leveled_of c.args.leveled.now)) (λ w. w.now) c.args.names.now c.loop-token.token-index c.loop-token.tokens.items c.loop-token-test.false c.loop-token.invariant
