-- The rows of FIRST sets while they grow, one row a rule: what is known, and what is done.
use Rattle.std.specs.Prelude.{◌≡◌, ℕ, ◌+◌, ◌<◌, Bool, true, false, ◌==◌, ◌&&◌, ◌||◌, IsTrue, List, [], ◌∷◌, length, slice_index_or, ◌⊎◌}
use Rattle.lrspec.specs.grammars.Grammar.{Symbol, Rule, Token, Grammar, token_count, body_of, IsProductionOf}
use Rattle.lrbits.specs.Bits.{bit}
use Rattle.lrgrammar.specs.Firsts.{BeginsRule}
use Rattle.lrbits.specs.Bits.{unset}

-- the row of the rule `r`
abbrev pub row : List (List Bool) → ℕ → List Bool
row x r = slice_index_or x r []

-- how many bits of the rows are not set
abbrev pub unset_rows : List (List Bool) → ℕ
unset_rows [] = 0
unset_rows (v ∷ x) = unset v + unset_rows x

-- a row a rule, each with one bit a token
pub record AreRows (g : Grammar) (x : List (List Bool)) : Type 0 where
  pub rules : length x ≡ length g.rule_names
  pub tokens : (r : ℕ) → r < length g.rule_names → length (row x r) ≡ token_count g

-- whether `t` begins the symbol, where `x` is what is known to begin rules
abbrev pub starts_symbol : List (List Bool) → Symbol → ℕ → Bool
starts_symbol x (Rule r) t = bit (row x r) t
starts_symbol x (Token u) t = u == t

-- whether the symbol is one of the nullable rules `v`
abbrev pub vanishes : List Bool → Symbol → Bool
vanishes v (Rule r) = bit v r
vanishes v (Token t) = false

-- whether `t` begins the list
abbrev pub starts : List Bool → List (List Bool) → List Symbol → ℕ → Bool
starts v x [] t = false
starts v x (s ∷ y) t = starts_symbol x s t || (vanishes v s && starts v x y t)

-- a rule with a row as long as that of `r`, or a token with a bit there
abbrev pub FitsRow : List (List Bool) → ℕ → Symbol → Type 0
FitsRow x r (Rule s) = (s < length x) × (length (row x s) ≡ length (row x r))
FitsRow x r (Token t) = t < length (row x r)

-- a rule below `n`, or a token
abbrev pub IsRuleBelow : ℕ → Symbol → Type 0
IsRuleBelow n (Rule r) = r < n
IsRuleBelow n (Token t) = Unit {0}

-- `y` is `x` with what begins the symbol `s` set in the row of `r`, and `b` says whether that is a change
pub record Adds (x y : List (List Bool)) (r : ℕ) (s : Symbol) (b : Bool) : Type 0 where
  pub rows : length y ≡ length x
  pub tokens : (k : ℕ) → length (row y k) ≡ length (row x k)
  pub grown : b ≡ true → unset_rows y < unset_rows x
  pub same : b ≡ false → y ≡ x
  pub held : b ≡ false → (t : ℕ) → IsTrue (starts_symbol x s t) → IsTrue (bit (row x r) t)
  pub only : (k t : ℕ) → IsTrue (bit (row y k) t)
      → IsTrue (bit (row x k) t) ⊎ ((k ≡ r) × IsTrue (starts_symbol x s t))

-- each set bit is of a token that begins the rule
abbrev pub HoldBegins : Grammar → List (List Bool) → Type 0
HoldBegins g x = (r t : ℕ) → IsTrue (bit (row x r) t) → BeginsRule g r t

-- what begins the body of `p` is set in the row of the rule `r`
abbrev pub IsDone : Grammar → List Bool → List (List Bool) → ℕ → ℕ → Type 0
IsDone g v x p r = (t : ℕ) → IsTrue (starts v x (body_of g p) t) → IsTrue (bit (row x r) t)

-- so it is for the rule of the production `p`
abbrev pub IsProductionDone : Grammar → List Bool → List (List Bool) → ℕ → Type 0
IsProductionDone g v x p = (r : ℕ) → IsProductionOf g p r → IsDone g v x p r

-- so it is for the productions below `n`
abbrev pub AreDoneBelow : Grammar → List Bool → List (List Bool) → ℕ → Type 0
AreDoneBelow g v x n = (p r : ℕ) → p < n → IsProductionOf g p r → IsDone g v x p r

-- so it is for all productions
abbrev pub AreDone : Grammar → List Bool → List (List Bool) → Type 0
AreDone g v x = (p r : ℕ) → IsProductionOf g p r → IsDone g v x p r
