-- the tokens of a row of a table that are taken: those on which it does something, or those that it shifts
use Rattle.std.specs.Prelude.{◌≡◌, ℕ, ◌+◌, ◌-◌, ◌<◌, Bool, false, true, not, List, [], ◌∷◌, filter, Option, None, Some, MatchOption}
use Rattle.std.specs.List.{range_with_len}
use Rattle.lrspec.specs.tables.Table.{Action, Shift, Reduce, Accept, Error}
use Rattle.lrsparse.specs.Matrix.{Matrix, value_at}
use Rattle.lrrows.specs.StoredActions.{action_numbered}

-- whether an action is taken: each shift, and where not only these are, each reduction and accepting
abbrev pub takes : Bool → Action → Bool
takes shifts_only (Shift s) = true
takes shifts_only (Reduce p) = not shifts_only
takes shifts_only Accept = not shifts_only
takes shifts_only Error = false

-- whether the action that a cell says is taken; where there is no cell, none is
abbrev pub takes_cell : Bool → Option ℕ → Bool
takes_cell shifts_only None = false
takes_cell shifts_only (Some number) = takes shifts_only (action_numbered number)

-- the tokens from `at` up to `end`, without it, whose cells in the row say actions that are taken
abbrev pub tokens_taken : Matrix → ℕ → Bool → ℕ → ℕ → List ℕ
tokens_taken m row shifts_only at end =
    filter (λ t. takes_cell shifts_only (value_at m row t)) (range_with_len at (end - at))

-- the first of them, if there is one, with all behind it
abbrev pub IsFirstTaken : Matrix → ℕ → Bool → ℕ → ℕ → Option ℕ → Type 0
IsFirstTaken m row shifts_only at end first =
    MatchOption first (tokens_taken m row shifts_only at end ≡ [])
    (λ t. (t < end) × (tokens_taken m row shifts_only at end
    ≡ t ∷ tokens_taken m row shifts_only (t + 1) end))
