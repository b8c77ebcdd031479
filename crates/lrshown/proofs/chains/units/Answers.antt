-- a chain of iterators
use Rattle.std.proofs.Common.{rules, tests}
use Rattle.std.proofs.lemmas.Iterator.{YieldsList-from_slice}
use Rattle.std.proofs.lemmas.Iterator.Consumers.{count_from_yields_List}
use Rattle.std.proofs.lemmas.Iterator.Search.{YieldsList-from_take_while}
use Rattle.lrshown.specs.Chains.{is_unit}
use Rattle.lrshown.proofs.chains.units.Goals as goal

pub returns : goal.returns
returns c =
    let file = c.args.file.now in
    count_from_yields_List c.take_while.result _ c.count.ensures.ran
    (YieldsList-from_take_while _ (λ s. is_unit file s) (YieldsList-from_slice c.args.steps.now cc) c.take_while.ensures.closure c.take_while.ensures.done (λ x b q k. search (rules, tests)))
