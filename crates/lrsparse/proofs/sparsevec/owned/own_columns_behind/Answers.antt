use Rattle.std.proofs.Common.{◌≡◌, ◌↔◌, ◌⊎◌, ◌+◌, ◌-◌, ◌<◌, ◌≤◌, ℕ, List, slice_index, inl, inr, arith}
use Rattle.std.proofs.lemmas.Bool.{cases_lt}
use Rattle.lrsparse.specs.Owned.{IsOwned}
use Rattle.lrsparse.proofs.sparsevec.owned.own_columns_behind.Goals as goal

-- one column more
behind_more :
    (first old new columns : List ℕ) (before i : ℕ) → before ≤ slice_index columns i
    → ((p : ℕ) → IsOwned old p ↔ (IsOwned first p ⊎ ((k : ℕ) × (k < i) × (before + p ≡ slice_index columns k))))
    → ((p : ℕ) → IsOwned new p ↔ (IsOwned old p ⊎ (p ≡ slice_index columns i - before)))
    → (p : ℕ) → IsOwned new p ↔ (IsOwned first p ⊎ ((k : ℕ) × (k < i + 1) × (before + p ≡ slice_index columns k)))
behind_more first old new columns before i behind so_far one p = (
  λ o. elim ((one p).0 o) [
    | inl w ↦ elim ((so_far p).0 w) [
      | inl f ↦ inl f
      | inr (k, l, e) ↦ inr (k, omega arith, e)
    ]
    | inr e ↦ inr (i, omega arith, omega arith)
  ],
  λ there. (one p).1 (elim there [
    | inl f ↦ inl ((so_far p).1 (inl f))
    | inr (k, l, e) ↦ elim (cases_lt k i) [
      | inl less ↦ inl ((so_far p).1 (inr (k, less, e)))
      | inr last ↦ let same : k ≡ i = omega arith in inr (omega (arith, rw same at e))
    ]
  ]),
)

pub loop-column-preserved : goal.loop-column-preserved
loop-column-preserved c =
    behind_more c.args.words.now c.loop-column.words c.own.new.words c.args.columns.now c.args.before c.loop-column.column-index
    (c.requires.behind c.loop-column.column-index c.loop-column-test.true) c.loop-column.invariant c.own.ensures
