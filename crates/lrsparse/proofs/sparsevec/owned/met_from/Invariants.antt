-- the columns so far, and what they meet
use Rattle.std.proofs.Common.{◌≡◌, ℕ, ◌+◌, ◌<◌, slice_index}
use Rattle.std.specs.Int.{bit_at}
use Rattle.lrsparse.specs.Owned.{IsOwned, MeetsNone}
use Rattle.lrsparse.proofs.sparsevec.owned.met_from.Given as goal

abbrev pub invariant-loop-k : goal.invariant-loop-k
invariant-loop-k l = record {
  met : (i : ℕ) → i < 64 → bit_at l.met i ≡ 1 → MeetsNone l.words l.columns (l.displacement + i) → ⊥;
  unmet :
      (i : ℕ) → i < 64 → bit_at l.met i ≡ 0
      → (k : ℕ) → k < l.k → IsOwned l.words (l.displacement + i + slice_index l.columns k) → ⊥;
}
