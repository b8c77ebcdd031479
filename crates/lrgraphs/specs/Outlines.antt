-- what is left of a graph where its table alone is wanted
use Rattle.std.specs.Prelude.{◌≡◌, ℕ, ◌<◌, length}
use Rattle.lrspec.specs.grammars.Grammar.{Symbol, Grammar, body_of}
use Rattle.lrspec.specs.grammars.ItemSets.{Fits, item_at}
use Rattle.lrspec.specs.merging.Graph.{Graph, closed_of, edge}

-- `k` is an outline of the graph `h`: it has as many states, and each has the complete items of that of `h`, with their
-- lookaheads, and its edges
pub record IsOutlineOf (g : Grammar) (h k : Graph) : Type 0 where
  pub length_is : length k ≡ length h
  pub fits : (s : ℕ) → s < length k → Fits g (closed_of k s)
  pub completes :
      (s p : ℕ)
      → item_at (closed_of k s) p (length (body_of g p)) ≡ item_at (closed_of h s) p (length (body_of g p))
  pub edges : (s : ℕ) (x : Symbol) → edge k s x ≡ edge h s x
