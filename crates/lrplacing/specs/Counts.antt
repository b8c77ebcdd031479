-- how many states are to be closed, and what the states weigh, which bounds how often one is closed
use Rattle.std.specs.Prelude.{ℕ, ◌+◌, List, map, length, sum_by, count_by, flat_map, not}
use Rattle.std.specs.List.{range_with_len}
use Rattle.lrspec.specs.grammars.Grammar.{Grammar, token_count, body_of}
use Rattle.lrspec.specs.grammars.ItemSets.{Items}
use Rattle.lrspec.specs.tables.Table.{looks_at}
use Rattle.lrplacing.specs.Construction.{Draft}

-- how many states are to be closed
unfoldable pub unclosed : List Draft → ℕ
unclosed ss = count_by (λ s. not s.is_closed) ss

-- the items of the production `p` by their dots
abbrev pub items_of_production : Grammar → ℕ → List (ℕ × ℕ)
items_of_production g p = map (λ d. (p, d)) (range_with_len 0 (length (body_of g p) + 1))

-- the items of the grammar, by production and dot
unfoldable pub grammar_items : Grammar → List (ℕ × ℕ)
grammar_items g = flat_map (items_of_production g) (range_with_len 0 (length g.productions))

-- at how many tokens the item looks in the item set
unfoldable pub item_looks : Grammar → Items → ℕ × ℕ → ℕ
item_looks g a i = count_by (looks_at a i.0 i.1) (range_with_len 0 (token_count g))

-- how many pairs of an item of the grammar and a token there are of which the item looks at the token in the item set
unfoldable pub looks_count : Grammar → Items → ℕ
looks_count g a = sum_by (item_looks g a) (grammar_items g)

-- what the states weigh: one for each state, and one for each item and token at which it looks in the core
unfoldable pub weight : Grammar → List Draft → ℕ
weight g ss = sum_by (λ s. 1 + looks_count g s.core) ss
