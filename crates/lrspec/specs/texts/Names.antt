-- names in lists: which stand there, whether one stands twice, where each first stands
use Rattle.std.specs.Prelude.{ℕ, Bool, true, not, ◌&&◌, List, [], ◌∷◌, filter, bytes_eq}
use Rattle.std.specs.List.{list_any, position_or_len}

-- whether the name is one of these
abbrev pub has_name : List (List ℕ) → List ℕ → Bool
has_name ws w = list_any (bytes_eq w) ws

-- whether no name stands twice
abbrev pub has_no_repeats : List (List ℕ) → Bool
has_no_repeats [] = true
has_no_repeats (w ∷ ws) = not (has_name ws w) && has_no_repeats ws

-- the names by first appearance, each once
abbrev pub first_appearances : List (List ℕ) → List (List ℕ)
first_appearances [] = []
first_appearances (w ∷ ws) = w ∷ filter (λ v. not (bytes_eq w v)) (first_appearances ws)

-- the place at which the name first stands
abbrev pub place_of : List (List ℕ) → List ℕ → ℕ
place_of ws w = position_or_len (bytes_eq w) ws
