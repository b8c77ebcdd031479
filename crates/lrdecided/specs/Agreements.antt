-- texts that agree in their first tokens
use Rattle.std.specs.Prelude.{◌≡◌, ℕ, zero, suc, List, drop, Option, None, Some}
use Rattle.lrspec.specs.grammars.Grammar.{Grammar}
use Rattle.lrspec.specs.tables.Machine.{next_token}

-- the first `n` tokens agree, where each text has end tokens behind it
abbrev pub AgreeIn : Grammar → ℕ → List ℕ → List ℕ → Type 0
AgreeIn g zero a b = Unit {0}
AgreeIn g (suc n) a b = (next_token g a ≡ next_token g b) × AgreeIn g n (drop 1 a) (drop 1 b)

-- so many tokens agree, or without a number all
abbrev pub Agree : Grammar → Option ℕ → List ℕ → List ℕ → Type 0
Agree g None a b = a ≡ b
Agree g (Some n) a b = AgreeIn g n a b

-- where so many tokens agree, so many do behind the first
pub data Spends : Option ℕ → Option ℕ → Type 0 where
  -- all, where all did
  all : Spends None None
  -- one less, where it was a number above 0
  one : (n : ℕ) → Spends (Some (suc n)) (Some n)
