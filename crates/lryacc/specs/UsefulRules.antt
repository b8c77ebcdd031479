-- sets of rules, and which productions are useful by them
use Rattle.std.specs.Prelude.{◌≡◌, ◌&&◌, ℕ, List, Bool, true, All, IsTrue, length, map, slice_get, unwrap_or}
use Rattle.std.specs.List.{list_all}
use Rattle.lrgrammar.specs.declared.grammar.GrammarParts.{GrammarParts}
use Rattle.lrgrammar.specs.StoredParts.{part_production_of}
use Rattle.lrspec.specs.grammars.Grammar.{Production, Symbol}
use Rattle.lrspec.specs.grammars.Grammar.Symbol.{Rule, Token}

-- whether a rule is in a set, a truth value for each rule of a grammar; a number of no rule is in each set
abbrev pub has : List Bool → ℕ → Bool
has rules rule = unwrap_or (slice_get rules rule) true

-- whether a symbol is a token, or a rule in a set
abbrev pub has_symbol : List Bool → Symbol → Bool
has_symbol rules (Rule rule) = has rules rule
has_symbol rules (Token token) = true

-- whether all rules among symbols are in a set
abbrev pub has_all : List Bool → List Symbol → Bool
has_all rules symbols = list_all (has_symbol rules) symbols

-- whether a production is useful: its rule is reached, and all rules in its body are productive
abbrev pub is_useful : List Bool → List Bool → Production → Bool
is_useful productive reached production =
    has reached production.rule && has_all productive production.body

-- a set has each productive rule: with all rules in the body of a production it has the production's rule, and so each one
-- that derives a string of tokens
abbrev pub HasProductive : List Bool → List Production → Type 0
HasProductive productive productions =
    All (λ production. IsTrue (has_all productive production.body)
    → IsTrue (has productive production.rule)) productions

-- a set has each rule that is reached: rule 0, and all rules in the bodies of useful productions
pub record HasReached (productive reached : List Bool) (productions : List Production)
    : Type 0 where
  pub start : IsTrue (has reached 0)
  pub behind : All (λ production. IsTrue (is_useful productive reached production)
      → IsTrue (has_all reached production.body)) productions

-- ---- the least of such sets

-- each rule of a set is in another one
abbrev pub IsWithin : List Bool → List Bool → Type 0
IsWithin rules other = (rule : ℕ) → IsTrue (has rules rule) → IsTrue (has other rule)

-- a set of so many rules has no rule that is not productive: it lies within each one that has all of them
pub record AreProductive (many : ℕ) (productions : List Production) (rules : List Bool)
    : Type 0 where
  pub many_rules : length rules ≡ many
  pub within : (other : List Bool) → length other ≡ many → HasProductive other productions
      → IsWithin rules other

-- a set of so many rules has no rule that is not reached
pub record AreReached (productive : List Bool) (many : ℕ) (productions : List Production)
    (rules : List Bool) : Type 0 where
  pub many_rules : length rules ≡ many
  pub within : (other : List Bool) → length other ≡ many
      → HasReached productive other productions → IsWithin rules other

-- rules are found, and no set that has all productive rules lacks them
pub record FindsProductive (productions : List Production) (old new : List Bool)
    : Type 0 where
  pub many : length new ≡ length old
  pub within : (other : List Bool) → length other ≡ length old
      → HasProductive other productions → IsWithin old other → IsWithin new other

-- rules are found, and no set that has all rules that are reached lacks them
pub record FindsReached (productive : List Bool) (productions : List Production)
    (old new : List Bool) : Type 0 where
  pub many : length new ≡ length old
  pub within : (other : List Bool) → length other ≡ length old
      → HasReached productive other productions → IsWithin old other → IsWithin new other

-- rules are found, and no set that has all those among some symbols lacks them
pub record FindsAmong (symbols : List Symbol) (old new : List Bool) : Type 0 where
  pub many : length new ≡ length old
  pub within : (other : List Bool) → IsTrue (has_all other symbols) → IsWithin old other
      → IsWithin new other

-- a rule is among symbols: each set that has all of these has it
pub record IsRuleAmong (symbols : List Symbol) (rule : ℕ) : Type 0 where
  pub within : (other : List Bool) → IsTrue (has_all other symbols) → IsTrue (has other rule)

-- the productions of a grammar
abbrev pub productions_in : GrammarParts → List Production
productions_in parts = map part_production_of parts.prods.items
