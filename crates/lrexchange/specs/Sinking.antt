-- beginnings that both stacks have
use Rattle.std.specs.Prelude.{◌≡◌, ℕ, ◌≤◌, List, ◌++◌, Some, length, take}
use Rattle.lrspec.specs.grammars.Grammar.{Symbol}
use Rattle.lrspec.specs.merging.Graph.{Graph}
use Rattle.lrexchange.specs.Positions.{Mark, Ours, Follows}

-- the lists have as many same symbols at first, on which edges lead from the one state to the other
pub record IsCommon (h : Graph) (s u n : ℕ) (theirs ours : List Symbol) : Type 0 where
  pub within : n ≤ length theirs
  pub fits : n ≤ length ours
  pub same : take n theirs ≡ take n ours
  pub leads : Follows h s (take n theirs) u

-- our symbols begin with these, and a mark is behind them
pub record AreBeforeMark (y : Ours) (v : List Symbol) : Type 0 where
  pub others : List Symbol
  pub begins : y.symbols ≡ v ++ others
  pub below : (m : Mark) → y.mark ≡ Some m → length v ≤ m.place

-- so many of our symbols are there, and a mark is behind them
pub record MaySink (y : Ours) (n : ℕ) : Type 0 where
  pub within : n ≤ length y.symbols
  pub below : (m : Mark) → y.mark ≡ Some m → n ≤ m.place
