-- the core after a list of symbols, and item sets that are rooted: unions of canonical cores
use Rattle.std.specs.Prelude.{ℕ, suc, List, Contains, ◌↔◌}
use Rattle.lrspec.specs.grammars.Grammar.{Symbol, Grammar}
use Rattle.lrspec.specs.grammars.CanonicalItems.{Stands, Looks}
use Rattle.lrspec.specs.grammars.ItemSets.{Items, HasItem, LooksIn}

-- the items that stand after `w` with a dot above 0, and the start item if it stands
pub data IsCoreItem (g : Grammar) (w : List Symbol) : ℕ → ℕ → Type 0 where
  start : Stands g w g.start_production 0 → IsCoreItem g w g.start_production 0
  moved : {p d : ℕ} → Stands g w p (suc d) → IsCoreItem g w p (suc d)

-- the items of `a` are those of the core after `w`, and there is one
pub record HasCoreAfter (g : Grammar) (w : List Symbol) (a : Items) : Type 0 where
  pub items : (p d : ℕ) → HasItem a p d ↔ IsCoreItem g w p d
  pub some : (p : ℕ) × (d : ℕ) × HasItem a p d

-- `a` has the core after each of the lists, of which there is one, and its items look exactly where
-- they look after at least one of them
pub record IsRootedBy (g : Grammar) (ws : List (List Symbol)) (a : Items) : Type 0 where
  pub some : (w : List Symbol) × Contains ws w
  pub cores : (w : List Symbol) → Contains ws w → HasCoreAfter g w a
  pub looks :
      (p d t : ℕ) → HasItem a p d
      → LooksIn a p d t ↔ ((w : List Symbol) × Contains ws w × Looks g w p d t)

-- some lists root it
abbrev pub IsRooted : Grammar → Items → Type 0
IsRooted g a = (ws : List (List Symbol)) × IsRootedBy g ws a
