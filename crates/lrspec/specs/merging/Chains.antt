-- chains of item sets that no merging joins, which say why a graph is large
use Rattle.std.specs.Prelude.{◌≡◌, ℕ, ◌-◌, ◌≤◌, List, [], ◌∷◌, length}
use Rattle.lrspec.specs.grammars.Grammar.{Grammar}
use Rattle.lrspec.specs.grammars.ItemSets.{Items, IsContained}
use Rattle.lrspec.specs.merging.Cores.{IsRooted}
use Rattle.lrspec.specs.merging.WeakCompatibility.{SameItems, IsWeaklyCompatible}

-- a rooted item set with the items of `a`, which contains it, is not weakly compatible with `b`
pub record IsKeptApart (g : Grammar) (a b : Items) : Type 0 where
  pub witness : Items
  pub rooted : IsRooted g witness
  pub same : SameItems witness a
  pub contains : IsContained a witness
  pub differ : IsWeaklyCompatible witness b → ⊥

-- `a` is kept apart from each of the item sets that has its items
abbrev pub IsKeptApartFrom : Grammar → Items → List Items → Type 0
IsKeptApartFrom g a [] = Unit {0}
IsKeptApartFrom g a (b ∷ bs) = (SameItems a b → IsKeptApart g a b) × IsKeptApartFrom g a bs

-- rooted item sets, of which each is kept apart from every later one with the same items
abbrev pub IsChain : Grammar → List Items → Type 0
IsChain g [] = Unit {0}
IsChain g (a ∷ bs) = IsRooted g a × IsKeptApartFrom g a bs × IsChain g bs

-- there is a chain of at least so many item sets
abbrev pub HasChainOf : Grammar → ℕ → Type 0
HasChainOf g n = (chain : List Items) × IsChain g chain × (n ≤ length chain)

-- there is a chain of just so many item sets
abbrev pub HasChainOfExactly : Grammar → ℕ → Type 0
HasChainOfExactly g n = (chain : List Items) × IsChain g chain × (length chain ≡ n)

-- why a graph can be too large for numbers up to `most`
abbrev pub HasCauseOfSize : Grammar → ℕ → Type 0
HasCauseOfSize g most = (chain : List Items) × IsChain g chain × (most - 1 ≤ length chain)
