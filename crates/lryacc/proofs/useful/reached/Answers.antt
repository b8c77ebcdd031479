use Rattle.std.proofs.Common.{Bool, List, ap, false, replicate, subst, sym, vec_len, ℕ, ◌<◌, ◌∙◌}
use Rattle.lryacc.specs.UsefulRules.{productions_in}
use Rattle.lryacc.proofs.LeastSets.{fewer-lack, lacking, reached-more, reached-none}
use Rattle.lryacc.proofs.useful.reached.Goals as goal

pub loop-rule-init : goal.loop-rule-init
loop-rule-init c =
    let parts = c.args.parts.now in
    let none = c.in_ok-search.ensures ∙ ap (λ (n : ℕ). replicate n false) c.len.ensures in
    reached-more (reached-none c.args.productive.now.found.items (vec_len parts.rules) (productions_in parts) _ none) c.in_ok-find_reached.ensures

pub loop-rule-smaller : goal.loop-rule-smaller
loop-rule-smaller c =
    let found = c.loop-rule.search.found.items in
    subst (λ (rules : List Bool). lacking rules < lacking found) (sym c.in_ok-find.ensures) (fewer-lack found c.in-Some.rule c.in-Some.ensures.gone)
