-- FIRST: nullable rules, and the tokens that begin a list of symbols
use Rattle.std.specs.Prelude.{ℕ, List, [], ◌∷◌}
use Rattle.lrspec.specs.grammars.Grammar.{Symbol, Rule, Token, Grammar, body_of, IsProductionOf}

mutual
  -- the least set of rules that holds each rule with a body made of its members alone
  pub data Nullable (g : Grammar) : ℕ → Type 0 where
    by_body :
        {r : ℕ} (p : ℕ) → IsProductionOf g p r → AllNullable g (body_of g p)
        → Nullable g r

  -- the list is made of nullable rules
  pub data AllNullable (g : Grammar) : List Symbol → Type 0 where
    none : AllNullable g []
    more :
        {r : ℕ} {y : List Symbol} → Nullable g r → AllNullable g y
        → AllNullable g (Rule r ∷ y)

-- the token `t` begins the list
pub data Begins (g : Grammar) : List Symbol → ℕ → Type 0 where
  here : {t : ℕ} {y : List Symbol} → Begins g (Token t ∷ y) t
  inside :
      {r t : ℕ} {y : List Symbol} (p : ℕ) → IsProductionOf g p r → Begins g (body_of g p) t
      → Begins g (Rule r ∷ y) t
  past : {r t : ℕ} {y : List Symbol} → Nullable g r → Begins g y t → Begins g (Rule r ∷ y) t
