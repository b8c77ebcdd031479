-- what precedences make of cells, where each reduction is tried against the shift as long as it stands
use Rattle.std.specs.Prelude.{ℕ, ◌+◌, ◌%◌, ◌==◌, ◌&&◌, if◌then◌else◌, Bool, true, false, List, [], ◌∷◌, ◌++◌, Option, None, Some, is_some, filter, length, map, option_to_list, slice_get}
use Rattle.std.specs.List.{cons_option, flat_map, list_any, range_with_len}
use Rattle.lrspec.specs.grammars.Grammar.{Token, Precedence, Grammar, token_count, token_precedence, production_precedence}
use Rattle.lrspec.specs.merging.Graph.{Graph, closed_of, edge}
use Rattle.lrspec.specs.tables.Table as table
use Rattle.lrspec.specs.tables.Table.{Action, decide, reductions}
use Rattle.lrrows.specs.StateRows.{complete_items}
use Rattle.lrverdicts.specs.Listed.{Listing}
use Rattle.lrfindings.specs.declared.cells.Outcome.{Outcome}
use Rattle.lrfindings.specs.declared.cells.Outcome.TheVariants.{Won, Tie, Open}
use Rattle.lrfindings.specs.declared.cells.Winner.{Winner}
use Rattle.lrfindings.specs.declared.cells.Winner.TheVariants.{Shift, Reduce, Neither}

-- who wins where a cell of a table with a shift and a reduction says this
abbrev pub winner_of : Action → Winner
winner_of (table.Action.Shift u) = Shift
winner_of (table.Action.Reduce p) = Reduce
winner_of a = Neither

-- whether a token and a production have their precedences from one `%precedence` line: that of its tokens is even, and that of
-- the productions the odd one below
abbrev pub is_tie : Precedence → Precedence → Bool
is_tie token production = (production.level % 2 == 1) && (token.level == production.level + 1)

-- what two precedences make of the shift of a token and of a reduction: without one of them it is open, a `%precedence` line
-- decides nothing between its own, and else it is as in a table
abbrev pub outcome_of : Option Precedence → Option Precedence → Outcome
outcome_of None o = Open
outcome_of (Some a) None = Open
outcome_of (Some a) (Some b) = if is_tie a b then Tie else Won (winner_of (decide (Some a) (Some b) 0 0))

-- what precedences make of the shift of the token `t` and the reduction by `p`
abbrev pub outcome : Grammar → ℕ → ℕ → Outcome
outcome g t p = outcome_of (token_precedence g t) (production_precedence g p)

-- whether the shift stands
abbrev pub leaves_shift : Outcome → Bool
leaves_shift (Won Reduce) = false
leaves_shift (Won Neither) = false
leaves_shift o = true

-- whether the reduction is left
abbrev pub leaves_reduction : Outcome → Bool
leaves_reduction (Won Shift) = false
leaves_reduction (Won Neither) = false
leaves_reduction o = true

-- the reduction and who wins, where precedences decide
abbrev pub decision : Outcome → ℕ → Option (ℕ × Winner)
decision (Won w) p = Some (p, w)
decision o p = None

-- the reductions of a cell that are left, each tried against the shift as long as it stands, by what precedences make of both
abbrev pub reductions_left : (ℕ → Outcome) → List ℕ → List ℕ
reductions_left o [] = []
reductions_left o (p ∷ ps) =
    let left = if leaves_shift (o p) then reductions_left o ps else ps in
    if leaves_reduction (o p) then p ∷ left else left

-- whether the shift stands against all reductions of the cell
abbrev pub shift_stands : (ℕ → Outcome) → List ℕ → Bool
shift_stands o [] = true
shift_stands o (p ∷ ps) = leaves_shift (o p) && shift_stands o ps

-- the reductions between which and the shift, as long as it stands, precedences decide, and who wins
abbrev pub decided : (ℕ → Outcome) → List ℕ → List (ℕ × Winner)
decided o [] = []
decided o (p ∷ ps) = cons_option (decision (o p) p) (if leaves_shift (o p) then decided o ps else [])

-- the shift of a token with the first of the reductions that are left
abbrev pub with_shift : ℕ → ℕ → List ℕ → List Listing
with_shift s t [] = []
with_shift s t (p ∷ ps) = (t, p, None, s) ∷ []

-- the first of the reductions with each other one
abbrev pub among_reductions : ℕ → ℕ → List ℕ → List Listing
among_reductions s t [] = []
among_reductions s t (p ∷ ps) = map (λ q. (t, p, Some q, s)) ps

-- the conflicts of reductions that are left, and of the shift if it stands
abbrev pub conflicts_of : ℕ → ℕ → Bool → List ℕ → List Listing
conflicts_of s t stands left = (if stands then with_shift s t left else []) ++ among_reductions s t left

-- the conflicts of the cell of the state `s` and the token `t` that are left, by what precedences make of the shift and each
-- reduction, whether the cell has a shift, and its reductions
abbrev pub conflicts_by : (ℕ → Outcome) → ℕ → ℕ → Bool → List ℕ → List Listing
conflicts_by o s t false ps = conflicts_of s t false ps
conflicts_by o s t true ps = conflicts_of s t (shift_stands o ps) (reductions_left o ps)

-- those of the cell of the graph
abbrev pub conflicts_at : Grammar → Graph → ℕ → ℕ → List Listing
conflicts_at g h s t = conflicts_by (outcome g t) s t (is_some (edge h s (Token t))) (reductions g (closed_of h s) t)

-- what meets, and who wins
abbrev pub Resolution : Type 0
Resolution = Listing × Winner

-- what is decided in a cell
abbrev pub resolved_of : ℕ → ℕ → List (ℕ × Winner) → List Resolution
resolved_of s t ds = map (λ d. ((t, d.0, None, s), d.1)) ds

-- what precedences resolve in the cell, by the same
abbrev pub resolved_by : (ℕ → Outcome) → ℕ → ℕ → Bool → List ℕ → List Resolution
resolved_by o s t false ps = []
resolved_by o s t true ps = resolved_of s t (decided o ps)

-- that of the cell of the graph
abbrev pub resolved_at : Grammar → Graph → ℕ → ℕ → List Resolution
resolved_at g h s t = resolved_by (outcome g t) s t (is_some (edge h s (Token t))) (reductions g (closed_of h s) t)

-- the reduction that is made in the cell, by the same: the first one that is left, where no shift stands
abbrev pub made_by : (ℕ → Outcome) → Bool → List ℕ → Option ℕ
made_by o false ps = slice_get ps 0
made_by o true ps = if shift_stands o ps then None else slice_get (reductions_left o ps) 0

-- that of the cell of the graph
abbrev pub made_at : Grammar → Graph → ℕ → ℕ → Option ℕ
made_at g h s t = made_by (outcome g t) (is_some (edge h s (Token t))) (reductions g (closed_of h s) t)

-- those that are made in the cells of a state
abbrev pub made_in : Grammar → Graph → ℕ → List ℕ
made_in g h s = flat_map (λ t. option_to_list (made_at g h s t)) (range_with_len 0 (token_count g))

-- each production of the complete items of a state by which it reduces in one of its cells
abbrev pub reduced_in : Grammar → Graph → ℕ → List ℕ
reduced_in g h s =
    filter (λ p. list_any (λ q. q == p) (made_in g h s)) (map (λ c. c.0) (complete_items g (closed_of h s)))

-- the states of a graph with the productions by which they reduce
abbrev pub reduced_by_states : Grammar → Graph → List (ℕ × ℕ)
reduced_by_states g h = flat_map (λ s. map (λ p. (s, p)) (reduced_in g h s)) (range_with_len 0 (length h))

-- those of all cells of a graph, by state and token
abbrev pub of_cells : {X : Type 0} → (ℕ → ℕ → List X) → Grammar → Graph → List X
of_cells f g h = flat_map (λ s. flat_map (f s) (range_with_len 0 (token_count g))) (range_with_len 0 (length h))

-- the conflicts of a graph that precedences leave open
abbrev pub conflicts_left : Grammar → Graph → List Listing
conflicts_left g h = of_cells (conflicts_at g h) g h

-- what precedences resolve in a graph
abbrev pub resolved_in : Grammar → Graph → List Resolution
resolved_in g h = of_cells (resolved_at g h) g h
