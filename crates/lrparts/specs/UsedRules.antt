-- Which rules have a production, as the cause of an empty rule is found.
use Rattle.std.specs.Prelude.{◌≡◌, ℕ, ◌<◌, ◌==◌, Bool, false, List, length, slice_index_or}
use Rattle.std.specs.List.{list_any}
use Rattle.lrtext.specs.declared.parts.GrammarParts.{GrammarParts}

-- for each rule whether it has a production
pub record AreUsed (ps : GrammarParts) (used : List Bool) : Type 0 where
  pub all : length used ≡ length ps.rules.items
  pub each : (r : ℕ) → r < length used
      → slice_index_or used r false ≡ list_any (λ p. p.rule == r) ps.prods.items
