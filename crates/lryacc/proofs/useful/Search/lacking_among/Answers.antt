use Rattle.std.proofs.Common.{◌≡◌, ◌<◌, ◌∙◌, Some, ap, length, slice_get}
use Rattle.lrgrammar.specs.declared.grammar.PartSymbol.TheVariants.{Rule}
use Rattle.lryacc.proofs.LeastSets.{rule-among}
use Rattle.lryacc.proofs.Numbered.{element-at}
use Rattle.lryacc.proofs.useful.Search.lacking_among.Goals as goal

pub returns-then-not-has-clause-among : goal.returns-then-not-has-clause-among
returns-then-not-has-clause-among c =
    let symbols = c.args.symbols.now in
    let index = c.loop-symbol.symbol-index in
    let below : index < length symbols = c.loop-symbol-test.true in
    let at : slice_get symbols index ≡ Some (Rule c.in-Rule.rule) = element-at symbols index _ below ∙ ap Some c.in-Rule.is in
    rule-among symbols index c.in-Rule.rule at
