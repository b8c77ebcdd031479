use Rattle.std.proofs.Common.{Bool, List, ap, false, replicate, subst, sym, vec_len, ℕ, ◌<◌, ◌∙◌}
use Rattle.lryacc.specs.UsefulRules.{productions_in}
use Rattle.lryacc.proofs.LeastSets.{fewer-lack, lacking, productive-more, productive-none}
use Rattle.lryacc.proofs.useful.productive.Goals as goal

pub loop-rule-init : goal.loop-rule-init
loop-rule-init c =
    let parts = c.args.parts.now in
    let none = c.in_ok-search.ensures ∙ ap (λ (n : ℕ). replicate n false) c.len.ensures in
    productive-more (productive-more (productive-none (vec_len parts.rules) (productions_in parts) _ none) c.in_ok-uses.ensures) c.in_ok-find_productive.ensures

pub loop-rule-smaller : goal.loop-rule-smaller
loop-rule-smaller c =
    let found = c.loop-rule.search.found.items in
    subst (λ (rules : List Bool). lacking rules < lacking found) (sym c.in_ok-find.ensures) (fewer-lack found c.in-Some.rule c.in-Some.ensures.gone)
