-- what is made of a grammar by merging: a graph, what that took, and its table
use Rattle.std.specs.Prelude.{ℕ, ◌+◌, ◌*◌, ◌^◌, ◌<◌, ◌≤◌}
use Rattle.lrspec.specs.grammars.Grammar.{Grammar, item_count, token_count}
use Rattle.lrspec.specs.merging.Chains.{HasChainOfExactly}
use Rattle.lrspec.specs.merging.Graph.{Graph, IsGraphOf, AreShared, InventsNoConflict, CoresCross}

-- the graph is the grammar's, made by merging
pub record IsMerged (g : Grammar) (h : Graph) : Type 0 where
  pub graph : IsGraphOf g h
  pub shared : AreShared g h
  pub conflicts : InventsNoConflict g h
  pub crossing : CoresCross h

-- what it took to make a graph of `n` states for indices up to `most`: `m` states were made, and
-- `k` times a state was closed
pub record AreCounts (g : Grammar) (most n m k : ℕ) : Type 0 where
  pub states : n ≤ m
  pub made : m ≤ most
  pub closed : m ≤ k
  pub closings : k ≤ m * (1 + item_count g * token_count g)
  pub fits : most * (1 + item_count g * token_count g) < 2 ^ 128
  pub chain : HasChainOfExactly g m
