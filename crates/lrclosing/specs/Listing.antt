-- the items that rows give, and the items of a closure in their order
use Rattle.std.specs.Prelude.{◌≡◌, ℕ, ◌+◌, ◌<◌, ◌≤◌, Bool, IsTrue, List, [], ◌∷◌, ◌++◌, Option, None, Some, length, flat_map, ◌-◌, ◌↔◌}
use Rattle.std.specs.List.{range_with_len}
use Rattle.lrspec.specs.grammars.Grammar.{Grammar, rule_of}
use Rattle.lrspec.specs.grammars.ItemSets.{Items}
use Rattle.lrbits.specs.Bits.{bit}
use Rattle.lrclosing.specs.Rows.{Rows, row_at, IsPutIn}

-- the place is in the range, from its first place up to its last
abbrev pub IsIn : ℕ × ℕ → ℕ → Type 0
IsIn range q = (range.0 ≤ q) × (q ≤ range.1)

-- one bit for each production from `from` on, set where its rule has a row; those before and behind
-- have none
pub record ArePutIn (g : Grammar) (rows : Rows) (from : ℕ) (bits : List Bool) : Type 0 where
  pub len : from + length bits ≤ length g.productions
  pub each : (k : ℕ) → IsTrue (bit bits k) ↔ IsPutIn g rows (from + k)
  pub within : (q : ℕ) → IsPutIn g rows q → (from ≤ q) × (q < from + length bits)

-- the place of `p` among `n` numbers from `from` on; the first place where `p` comes before them,
-- and the end where it comes behind them
pub record IsPlaceAmong (from n p k : ℕ) : Type 0 where
  pub most : k ≤ n
  pub before : p ≤ from → k ≡ 0
  pub among : from ≤ p → p ≤ from + n → from + k ≡ p
  pub behind : from + n ≤ p → k ≡ n

-- what a row gives to the production `q`: nothing where there is no row
abbrev pub row_item : ℕ → Option (List Bool) → Items
row_item q None = []
row_item q (Some v) = ((q, 0), v) ∷ []

-- what the rows give to the productions of `from..end`, upwards
abbrev pub row_items : Grammar → Rows → ℕ → ℕ → Items
row_items g rows from end =
    flat_map (λ q. row_item q (row_at rows (rule_of g q))) (range_with_len from (end - from))

-- the items with what the rows give to the productions from `from` on put between them
abbrev pub listed_items : Grammar → Rows → ℕ → Items → Items
listed_items g rows from [] = row_items g rows from (length g.productions)
listed_items g rows from (e ∷ es) =
    row_items g rows from (e.0.0 + 1) ++ e ∷ listed_items g rows (e.0.0 + 1) es
