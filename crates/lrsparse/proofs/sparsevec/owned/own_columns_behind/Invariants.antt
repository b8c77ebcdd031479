-- the places of the columns so far are owned
use Rattle.std.proofs.Common.{◌≡◌, ◌↔◌, ◌⊎◌, ◌<◌, ◌+◌, ℕ, slice_index}
use Rattle.lrsparse.specs.Owned.{IsOwned}
use Rattle.lrsparse.proofs.sparsevec.owned.own_columns_behind.Given as goal

abbrev pub invariant-loop-column : goal.invariant-loop-column
invariant-loop-column l =
    (p : ℕ)
    → IsOwned l.words p
    ↔ (IsOwned l.initial.words p ⊎ ((k : ℕ) × (k < l.column-index) × (l.before + p ≡ slice_index l.columns k)))
