-- tables as lists of numbers
use Rattle.std.specs.Prelude.{ℕ, ◌+◌, ◌*◌, List, [], ◌∷◌, ◌++◌, map, length, Option, None, Some}
use Rattle.std.specs.List.{flat_map, range_with_len}
use Rattle.lrspec.specs.grammars.Grammar.{Grammar, token_count, rule_of, body_of}
use Rattle.lrspec.specs.tables.Table.{Table, Action, Shift, Reduce, Accept, Error, action_of, goto_of}

-- what a cell says
abbrev pub action_number : Action → ℕ
action_number Error = 0
action_number Accept = 1
action_number (Shift s) = 2 * s + 2
action_number (Reduce p) = 2 * p + 3

-- where a rule leads: 0 for nowhere, else one more than the state
abbrev pub goto_number : Option ℕ → ℕ
goto_number None = 0
goto_number (Some s) = s + 1

-- what a state does on each token
abbrev pub action_row : Table → ℕ → ℕ → List ℕ
action_row b tokens s = map (λ t. action_number (action_of b s t)) (range_with_len 0 tokens)

-- where each rule leads from a state
abbrev pub goto_row : Table → ℕ → ℕ → List ℕ
goto_row b rules s = map (λ r. goto_number (goto_of b s r)) (range_with_len 0 rules)

-- the rule of a production, and how many symbols its body has
abbrev pub production_pair : Grammar → ℕ → List ℕ
production_pair g p = rule_of g p ∷ length (body_of g p) ∷ []

-- how many states, tokens, rules and productions there are; then the rows of actions, those of gotos, and
-- the productions
abbrev pub flat : Grammar → Table → List ℕ
flat g b =
    let states = length b.actions in
    let tokens = token_count g in
    let rules = length g.rule_names in
    let productions = length g.productions in
    states ∷ tokens ∷ rules ∷ productions ∷ []
    ++ flat_map (action_row b tokens) (range_with_len 0 states)
    ++ flat_map (goto_row b rules) (range_with_len 0 states)
    ++ flat_map (production_pair g) (range_with_len 0 productions)
