use Rattle.std.proofs.Common.{◌∙◌, ap, sym, subst, Contains, List}
use Rattle.lryacc.specs.declared.contents.Alternative.{Alternative}
use Rattle.lryacc.specs.declared.contents.Contents.{Contents}
use Rattle.lryacc.specs.NamedSymbols.IsRule.{before_colon}
use Rattle.lryacc.proofs.numbering.Numbering.add_rules.Goals as goal

pub add_rule_of-requires : goal.add_rule_of-requires
add_rule_of-requires c =
    let body = c.alternative-item.result in
    let among : Contains c.deref-alternative-items.result.now body = (c.loop-alternative.alternative-index, c.loop-alternative-test.true, sym c.alternative-item.is) in
    let same = c.deref-alternative-items.ensures.value ∙ ap (λ (contents : Contents). contents.alternatives.items) (sym c.loop-alternative.invariant.contents) in
    λ number e. before_colon body (subst (λ (bodies : List Alternative). Contains bodies body) same among) e
