use Rattle.lrspec.specs.texts.Meaning.{production_in}
use Rattle.lrtext.specs.StoredParts.{part_production_of}
use Rattle.lrtext.specs.StoredContents.{alternative_of}
use Rattle.lrtext.proofs.ListSteps.{pushed_more, pushed_all}
use Rattle.lrtext.proofs.MadeParts.{production_made}
use Rattle.lrtext.proofs.meaning.prods.Goals as goal

-- one more production was pushed
pub loop-alternative-preserved : goal.loop-alternative-preserved
loop-alternative-preserved c =
    let rules = c.args.rules.now in
    let tokens = c.args.tokens.now in
    let made = production_made rules tokens c.alternative-item.result _ c.as_slice.result.now c.place-rule.result c.in_ok-symbols.symbols c.precedence-precedence.result c.alternative-item.is c.as_slice.ensures.value c.place-rule.ensures c.in_ok-symbols.ensures c.precedence-precedence.ensures in
    pushed_more part_production_of (production_in rules tokens) alternative_of c.args.alternatives.now c.loop-alternative.alternative-index _ c.loop-alternative.prods.items c.push.new.self.items _ c.loop-alternative-test.true c.loop-alternative.invariant c.in_ok-push.ensures.items made

-- all were pushed
pub returns : goal.returns
returns c = pushed_all part_production_of (production_in c.args.rules.now c.args.tokens.now) alternative_of c.args.alternatives.now c.loop-alternative.alternative-index c.loop-alternative.prods.items c.loop-alternative-test.false c.loop-alternative.invariant
