-- what of a graph its table is read off
use Rattle.std.specs.Prelude.{◌≡◌, ℕ, ◌<◌, Some, length}
use Rattle.lrspec.specs.grammars.Grammar.{Symbol, Rule, Token, Grammar, token_count}
use Rattle.lrspec.specs.grammars.ItemSets.{Fits}
use Rattle.lrspec.specs.merging.Graph.{Graph, closed_of, edge}

-- a table can be read off the graph: what its closed states hold fits the grammar, its edges lead to its states, and they are on
-- rules and tokens of the grammar
pub record IsReadable (g : Grammar) (h : Graph) : Type 0 where
  pub closed : (s : ℕ) → s < length h → Fits g (closed_of h s)
  pub targets : (s u : ℕ) (x : Symbol) → edge h s x ≡ Some u → u < length h
  pub rules : (s r u : ℕ) → edge h s (Rule r) ≡ Some u → r < length g.rule_names
  pub tokens : (s t u : ℕ) → edge h s (Token t) ≡ Some u → t < token_count g
