-- the start state: its core, and what stands there by the canonical items
use Rattle.std.specs.Prelude.{◌≡◌, ℕ, [], ◌↔◌}
use Rattle.lrspec.specs.grammars.Grammar.{Grammar, end_token}
use Rattle.lrspec.specs.grammars.CanonicalItems.{Stands, Looks}
use Rattle.lrspec.specs.grammars.ItemSets.{Items, HasItem, LooksIn}

-- the start item alone, looking at the end token alone
pub record IsStartCore (g : Grammar) (a : Items) : Type 0 where
  pub item : (p d : ℕ) → HasItem a p d ↔ ((p ≡ g.start_production) × (d ≡ 0))
  pub look :
      (p d t : ℕ) → LooksIn a p d t ↔ ((p ≡ g.start_production) × (d ≡ 0) × (t ≡ end_token g))

-- what stands after the empty list, looking where it looks after it
pub record IsCanonicalStart (g : Grammar) (c : Items) : Type 0 where
  pub items : (p d : ℕ) → HasItem c p d ↔ Stands g [] p d
  pub looks : (p d t : ℕ) → LooksIn c p d t ↔ Looks g [] p d t
