-- rows of a table that reduce by one production
use Rattle.std.specs.Prelude.{◌≡◌, ℕ, List, Contains, ◌⊎◌}
use Rattle.std.specs.List.{All}
use Rattle.lrspec.specs.tables.Table.{Action, Reduce, Error}

-- the actions of a row reduce by one production, and else err
abbrev pub ReducesByOne : List Action → Type 0
ReducesByOne xs = (p : ℕ) × Contains xs (Reduce p) × All (λ x. (x ≡ Error) ⊎ (x ≡ Reduce p)) xs
