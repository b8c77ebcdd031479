-- items in a row, as the code stores them, and how one goes into another
use Rattle.std.specs.Prelude.{◌≡◌, ◌≢◌, ℕ, ◌≤◌, List, ◌∷◌, ◌++◌, map, length, take, Option, None, Some}
use Rattle.lrgrammar.specs.declared.idx.Symbol as stored
use Rattle.lrgrammar.specs.declared.idx.PIdx.{PIdx}
use Rattle.lrgrammar.specs.declared.idx.RIdx.{RIdx}
use Rattle.lrgrammar.specs.declared.idx.SIdx.{SIdx}
use Rattle.lrgrammar.specs.Symbols.{symbol_of}
use Rattle.lrspec.specs.grammars.Grammar.{Symbol, Rule, Grammar, body_of, rest, IsProductionOf}

-- items by their numbers: the production, and the dot
abbrev pub items_of : {T : Type 0} → (T → ℕ) → List (PIdx T × SIdx T) → List (ℕ × ℕ)
items_of number is = map (λ i. (number i.0.0, number i.1.0)) is

-- the item of production `p` at dot `d` is of the rule that stands first behind another's dot, and the list has the symbols
-- before its dot and then `left`
pub record Enters (g : Grammar) (behind : List Symbol) (p d : ℕ) (list left : List Symbol)
    : Type 0 where
  pub rule : ℕ
  pub others : List Symbol
  pub is_rule : behind ≡ Rule rule ∷ others
  pub of_rule : IsProductionOf g p rule
  pub within : d ≤ length (body_of g p)
  pub begins : list ≡ take d (body_of g p) ++ left

-- what is told is the rule that stands first in the list, or that none does
abbrev pub IsFirstRule : {T : Type 0} → (T → ℕ) → Option (RIdx T) → List Symbol → Type 0
IsFirstRule number None y = (r : ℕ) (z : List Symbol) → y ≢ Rule r ∷ z
IsFirstRule number (Some r) y = (z : List Symbol) × (y ≡ Rule (number r.0) ∷ z)

-- behind any dot with the wanted rule first the item may come, with so much of the list left, and this rule is behind its dot
pub record GoesInto {T : Type 0} (number : T → ℕ) (g : Grammar) (wanted : Option (RIdx T))
    (p d : ℕ) (list left : List (stored.Symbol T)) (inner : Option (RIdx T)) : Type 0 where
  pub enters :
      (behind : List Symbol) → IsFirstRule number wanted behind
      → Enters g behind p d (map (symbol_of number) list) (map (symbol_of number) left)
  pub told : IsFirstRule number inner (rest g p d)

-- behind none of these it may
abbrev pub GoesNowhere :
    {T : Type 0} → (T → ℕ) → Grammar → Option (RIdx T) → ℕ → ℕ → List (stored.Symbol T) → Type 0
GoesNowhere number g wanted p d list =
    (behind left : List Symbol) → IsFirstRule number wanted behind
    → ¬ (Enters g behind p d (map (symbol_of number) list) left)
