-- the reduce/reduce conflicts of a state, by its complete items and the least production on each token
use Rattle.std.specs.Prelude.{ℕ, Bool, ◌==◌, if◌then◌else◌, List, Option, None, Some, slice_index_or}
use Rattle.std.specs.List.{filter_map, flat_map}
use Rattle.lrspec.specs.texts.PrintedTexts.{set_bits}

-- the entry for the token `t` in the state `s`: the least production, and `q`, another one
abbrev pub reduce_reduce_by_least : Option ℕ → ℕ → ℕ → ℕ → Option (ℕ × ℕ × ℕ × ℕ)
reduce_reduce_by_least None q s t = None
reduce_reduce_by_least (Some p) q s t = if p == q then None else Some (t, p, q, s)

-- the conflicts of a complete item with the least productions, by token
abbrev pub reduce_reduce_by_item : List (Option ℕ) → ℕ → ℕ × List Bool → List (ℕ × ℕ × ℕ × ℕ)
reduce_reduce_by_item least s c =
    filter_map (λ t. reduce_reduce_by_least (slice_index_or least t None) c.0 s t) (set_bits c.1)

-- the conflicts of all complete items
abbrev pub reduce_reduce_by : List (Option ℕ) → ℕ → List (ℕ × List Bool) → List (ℕ × ℕ × ℕ × ℕ)
reduce_reduce_by least s cs = flat_map (reduce_reduce_by_item least s) cs
