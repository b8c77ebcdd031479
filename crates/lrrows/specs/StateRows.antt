-- what a table has of one state of a graph: its cells, its gotos and its conflicts
use Rattle.std.specs.Prelude.{ℕ, Bool, false, not, ◌==◌, ◌&&◌, if◌then◌else◌, List, [], ◌∷◌, Option, None, Some, length, map, slice_index_or}
use Rattle.std.specs.List.{filter_map, flat_map, range_with_len}
use Rattle.lrspec.specs.grammars.Grammar.{Rule, Token, Grammar, end_token, token_count, body_of}
use Rattle.lrspec.specs.grammars.ItemSets.{Items}
use Rattle.lrspec.specs.merging.Graph.{Graph, closed_of, edge}
use Rattle.lrspec.specs.tables.Table.{cell_of, accepts_at, reductions, reduce_reduce_entry, shift_reduce_entry}
use Rattle.lrrows.specs.StoredActions.{action_number, goto_number}

-- the first number of a list, if there is one
abbrev pub first_of : List ℕ → Option ℕ
first_of [] = None
first_of (p ∷ ps) = Some p

-- the complete item of a production other than the start production, with its lookaheads
abbrev pub complete_item : Grammar → (ℕ × ℕ) × List Bool → Option (ℕ × List Bool)
complete_item g e =
    if (e.0.1 == length (body_of g e.0.0)) && not (e.0.0 == g.start_production)
    then Some (e.0.0, e.1)
    else None

-- the complete items of an item set but for that of the start production, in their order
abbrev pub complete_items : Grammar → Items → List (ℕ × List Bool)
complete_items g a = filter_map (complete_item g) a

-- the first of the complete items that looks at the token
abbrev pub first_at : List (ℕ × List Bool) → ℕ → Option ℕ
first_at [] t = None
first_at (c ∷ cs) t = if slice_index_or c.1 t false then Some c.0 else first_at cs t

-- the least production by which the state reduces on each token, if there is one
abbrev pub least_reductions : Grammar → Items → List (Option ℕ)
least_reductions g a = map (λ t. first_of (reductions g a t)) (range_with_len 0 (token_count g))

-- the least production by which an item set reduces at the end of the text, where it accepts there
abbrev pub least_accept_reduce : Grammar → Items → Option ℕ
least_accept_reduce g a =
    if accepts_at g a (end_token g) then first_of (reductions g a (end_token g)) else None

-- the numbers of the cells of the state, token by token
abbrev pub action_row : Grammar → Graph → ℕ → List ℕ
action_row g h s = map (λ t. action_number (cell_of g h s t)) (range_with_len 0 (token_count g))

-- the numbers of the gotos of the state, rule by rule
abbrev pub goto_row : Grammar → Graph → ℕ → List ℕ
goto_row g h s = map (λ r. goto_number (edge h s (Rule r))) (range_with_len 0 (length g.rule_names))

-- the reduce/reduce conflicts of the state with the other production `q`, by token
abbrev pub reduce_reduce_with : Grammar → Graph → ℕ → ℕ → List (ℕ × ℕ × ℕ × ℕ)
reduce_reduce_with g h s q =
    filter_map (λ t. reduce_reduce_entry (reductions g (closed_of h s) t) s q t)
    (range_with_len 0 (token_count g))

-- the reduce/reduce conflicts of the state, by other production and then token
abbrev pub reduce_reduce_at : Grammar → Graph → ℕ → List (ℕ × ℕ × ℕ × ℕ)
reduce_reduce_at g h s =
    flat_map (reduce_reduce_with g h s) (range_with_len 0 (length g.productions))

-- the shift/reduce conflicts of the state, by token
abbrev pub shift_reduce_at : Grammar → Graph → ℕ → List (ℕ × ℕ × ℕ)
shift_reduce_at g h s =
    filter_map
    (λ t. shift_reduce_entry g (reductions g (closed_of h s) t) (edge h s (Token t)) s t)
    (range_with_len 0 (token_count g))
