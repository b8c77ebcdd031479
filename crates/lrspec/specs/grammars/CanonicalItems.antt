-- the canonical LR(1) items: what stands after a list of symbols, and where it looks
use Rattle.std.specs.Prelude.{◌≡◌, ℕ, suc, List, [], ◌∷◌, ◌++◌}
use Rattle.lrspec.specs.grammars.Grammar.{Symbol, Rule, Grammar, end_token, rest, IsProductionOf}
use Rattle.lrspec.specs.grammars.First.{AllNullable, Begins}

-- the item of production `p` at dot `d` stands after `w`
pub data Stands (g : Grammar) : List Symbol → ℕ → ℕ → Type 0 where
  begin : Stands g [] g.start_production 0
  expand :
      {w : List Symbol} {p d r q : ℕ} {y : List Symbol}
      → Stands g w p d → rest g p d ≡ Rule r ∷ y → IsProductionOf g q r
      → Stands g w q 0
  advance :
      {w : List Symbol} {p d : ℕ} {x : Symbol} {y : List Symbol}
      → Stands g w p d → rest g p d ≡ x ∷ y
      → Stands g (w ++ x ∷ []) p (suc d)

-- that item looks at the token `t` after `w`
pub data Looks (g : Grammar) : List Symbol → ℕ → ℕ → ℕ → Type 0 where
  begin : Looks g [] g.start_production 0 (end_token g)
  expand :
      {w : List Symbol} {p d r q t : ℕ} {y : List Symbol}
      → Stands g w p d → rest g p d ≡ Rule r ∷ y → IsProductionOf g q r → Begins g y t
      → Looks g w q 0 t
  inherit :
      {w : List Symbol} {p d r q t : ℕ} {y : List Symbol}
      → Looks g w p d t → rest g p d ≡ Rule r ∷ y → IsProductionOf g q r → AllNullable g y
      → Looks g w q 0 t
  advance :
      {w : List Symbol} {p d t : ℕ} {x : Symbol} {y : List Symbol}
      → Looks g w p d t → rest g p d ≡ x ∷ y
      → Looks g (w ++ x ∷ []) p (suc d) t
