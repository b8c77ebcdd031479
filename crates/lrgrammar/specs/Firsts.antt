-- The nullable rules and the FIRST sets of a grammar.
use Rattle.std.specs.Prelude.{◌≡◌, ℕ, ◌<◌, Bool, IsTrue, List, [], length, slice_index_or, ◌↔◌}
use Rattle.lrspec.specs.grammars.Grammar.{Grammar, IsGrammar, token_count, body_of, IsProductionOf}
use Rattle.lrspec.specs.grammars.First.{Nullable, Begins}
use Rattle.lrbits.specs.Bits.{bit}

-- for each rule whether it is nullable, and one bit a token
pub record Firsts : Type 0 where
  pub nullable : List Bool
  pub tokens : List (List Bool)

-- the bits of the rule `r`
abbrev pub firsts_of : Firsts → ℕ → List Bool
firsts_of f r = slice_index_or f.tokens r []

-- the token `t` begins a body of the rule `r`
abbrev pub BeginsRule : Grammar → ℕ → ℕ → Type 0
BeginsRule g r t = (p : ℕ) × IsProductionOf g p r × Begins g (body_of g p) t

-- the nullable rules and the FIRST sets of the grammar
pub record AreFirstsOf (g : Grammar) (f : Firsts) : Type 0 where
  pub shape : IsGrammar g
  pub rules : length f.nullable ≡ length g.rule_names
  pub rows : length f.tokens ≡ length g.rule_names
  pub bits : (r : ℕ) → r < length g.rule_names → length (firsts_of f r) ≡ token_count g
  pub is_nullable : (r : ℕ) → IsTrue (bit f.nullable r) ↔ Nullable g r
  pub begins : (r t : ℕ) → IsTrue (bit (firsts_of f r) t) ↔ BeginsRule g r t
