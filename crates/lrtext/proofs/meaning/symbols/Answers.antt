use Rattle.lrspec.specs.texts.Meaning.{symbol_in}
use Rattle.lrtext.specs.StoredParts.{part_symbol_of}
use Rattle.lrtext.specs.StoredContents.{name_text_of}
use Rattle.lrtext.proofs.ListSteps.{pushed_more, pushed_all}
use Rattle.lrtext.proofs.meaning.symbols.Goals as goal

-- one more symbol was pushed
pub loop-name-preserved : goal.loop-name-preserved
loop-name-preserved c =
    pushed_more part_symbol_of (symbol_in c.args.rules.now c.args.tokens.now) name_text_of c.args.body.now c.loop-name.name-index _ c.loop-name.symbols.items c.push.new.self.items c.symbol.result c.loop-name-test.true c.loop-name.invariant c.in_ok-push.ensures.items c.symbol.ensures

-- all were pushed
pub returns : goal.returns
returns c = pushed_all part_symbol_of (symbol_in c.args.rules.now c.args.tokens.now) name_text_of c.args.body.now c.loop-name.name-index c.loop-name.symbols.items c.loop-name-test.false c.loop-name.invariant
