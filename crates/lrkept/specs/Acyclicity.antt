-- grammars in which no rule derives itself alone
use Rattle.std.specs.Prelude.{◌≡◌, ℕ, zero, suc, ◌+◌, ◌*◌, ◌<◌, List, ◌∷◌, ◌++◌}
use Rattle.lrspec.specs.grammars.Grammar.{Symbol, Rule, Grammar, body_of, IsProductionOf}
use Rattle.lrspec.specs.grammars.First.{AllNullable}

-- a production of the rule `r` has the rule `s` between nullable rules: `r` derives `s` alone in one step
pub record HasAlone (g : Grammar) (r s : ℕ) : Type 0 where
  pub production : ℕ
  -- what is before `s` in its body, and what is behind it
  pub before : List Symbol
  pub behind : List Symbol
  pub of_rule : IsProductionOf g production r
  pub body : body_of g production ≡ before ++ Rule s ∷ behind
  pub null_before : AllNullable g before
  pub null_behind : AllNullable g behind

-- the rule derives the other one alone, in one step or in more
pub data DerivesAlone (g : Grammar) : ℕ → ℕ → Type 0 where
  -- in one step
  one : {r s : ℕ} → HasAlone g r s → DerivesAlone g r s
  -- in a step before others
  more : {r s u : ℕ} → HasAlone g r s → DerivesAlone g s u → DerivesAlone g r u

-- each rule has a rank below the bound, and ranks fall from a rule to each that it derives alone
pub record IsRanking (g : Grammar) (bound : ℕ) (rank : ℕ → ℕ) : Type 0 where
  pub below : (r : ℕ) → rank r < bound
  pub falls : (r s : ℕ) → HasAlone g r s → rank s < rank r

-- the rules have ranks: no rule derives itself alone
abbrev pub IsAcyclic : Grammar → Type 0
IsAcyclic g = (bound : ℕ) × (rank : ℕ → ℕ) × IsRanking g bound rank

-- how many nodes a tree of so many levels has at most, where each has at most `width` children
abbrev pub nodes_within : ℕ → ℕ → ℕ
nodes_within width zero = 0
nodes_within width (suc levels) = width * nodes_within width levels + 1
