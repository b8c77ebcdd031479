use Rattle.std.proofs.Common.{ℕ, ◌<◌, List, All, Option, None, IsSome, length, sym, ◌∙◌, subst, arith}
use Rattle.std.proofs.lemmas.List.{take_all}
use Rattle.std.proofs.lemmas.List.Elements.{All-more}
use Rattle.lryacc.proofs.useful.Selection.useless_rules.Goals as goal

pub loop-rule-preserved-then-is_some : goal.loop-rule-preserved-then-is_some
loop-rule-preserved-then-is_some c = λ e.
    let below : c.loop-rule.rule < length c.deref-number-items.result.now = omega arith in
    All-more (λ (number : Option ℕ). IsSome number) c.deref-number-items.result.now c.loop-rule.rule None below
    (c.loop-rule.invariant e) (sym c.is_some.ensures ∙ c.if-is_some.true)

pub returns : goal.returns
returns c = λ e.
    subst (λ (numbers : List (Option ℕ)). All (λ number. IsSome number) numbers)
    (take_all _ _ c.loop-rule-test.false ∙ c.deref-number-items.ensures.value) (c.loop-rule.invariant e)
