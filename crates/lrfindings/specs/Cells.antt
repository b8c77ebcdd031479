-- sets of cells of a table
use Rattle.std.specs.Prelude.{ℕ, Bool}
use Rattle.std.specs.declared.cmp.Ordering.{Ordering}
use Rattle.std.specs.Ordering.{nat_cmp, ordering_then}
use Rattle.std.specs.BTreeSet.{BTreeSet, contains}

-- a cell: its state and token
abbrev pub Cell : Type 0
Cell = ℕ × ℕ

-- cells are in order by their states, and then by their tokens
abbrev pub cell_cmp : Cell → Cell → Ordering
cell_cmp c d = ordering_then (nat_cmp c.0 d.0) (nat_cmp c.1 d.1)

-- whether the set has the cell of the state and the token
abbrev pub has_cell : BTreeSet Cell → ℕ → ℕ → Bool
has_cell cells s t = contains cell_cmp cells (s, t)
