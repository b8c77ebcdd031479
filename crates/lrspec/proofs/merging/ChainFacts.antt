-- what lengthens a chain of item sets, what keeps it, and what a part of one is
use Rattle.std.proofs.Common.{◌≡◌, ℕ, suc, ◌≤◌, Bool, true, false, cond, List, [], ◌∷◌, ◌++◌, length, Some, refl, arith}
use Rattle.std.specs.Prelude.{count_by, slice_get}
use Rattle.std.proofs.lemmas.List.Sums.{sum_by-cons}
use Rattle.lrspec.specs.grammars.Grammar.{Grammar}
use Rattle.lrspec.specs.grammars.ItemSets.{Items, IsContained}
use Rattle.lrspec.specs.merging.Cores.{IsRooted}
use Rattle.lrspec.specs.merging.WeakCompatibility.{SameItems, Clash}
use Rattle.lrspec.specs.merging.Chains.{IsKeptApart, IsKeptApartFrom, IsChain}
use Rattle.lrspec.proofs.merging.CrossFacts.{clash_refutes}

-- a rooted item set with the items of `a`, which contains it, clashes with `b`
pub record IsClashing (g : Grammar) (a b : Items) : Type 0 where
  pub witness : Items
  pub rooted : IsRooted g witness
  pub same : SameItems witness a
  pub contains : IsContained a witness
  pub clash : Clash witness b

-- so `a` is kept apart from `b`
pub kept_apart_by_clash : {g : Grammar} {a b : Items} → IsClashing g a b → IsKeptApart g a b
kept_apart_by_clash k = record {
  witness = k.witness;
  rooted = k.rooted;
  same = k.same;
  contains = k.contains;
  differ = clash_refutes k.clash;
}

apart_from_more :
    {g : Grammar} (a b : Items) (bs : List Items) → IsKeptApartFrom g a bs → (SameItems a b → IsKeptApart g a b)
    → IsKeptApartFrom g a (bs ++ b ∷ [])
apart_from_more a b [] h k = (k, tt)
apart_from_more a b (c ∷ cs) (h, i) k = (h, apart_from_more a b cs i k)

-- a rooted item set from which each of a chain with its items is kept apart makes the chain longer by one
pub chain_longer :
    {g : Grammar} (chain : List Items) (b : Items) → IsChain g chain → IsRooted g b
    → ((k : ℕ) (a : Items) → slice_get chain k ≡ Some a → SameItems a b → IsKeptApart g a b) → IsChain g (chain ++ b ∷ [])
chain_longer [] b c r h = (r, tt, tt)
chain_longer (a ∷ cs) b (s, i, c) r h = (
  s,
  apart_from_more a b cs i (h 0 a refl),
  chain_longer cs b c r (λ k d e m. h (suc k) d e m),
)

-- the entries of a list at whose places there is a mark
abbrev pub marked_of : {X : Type 0} → List Bool → List X → List X
marked_of [] xs = []
marked_of (m ∷ ms) [] = []
marked_of (true ∷ ms) (x ∷ xs) = x ∷ marked_of ms xs
marked_of (false ∷ ms) (x ∷ xs) = marked_of ms xs

apart_from_marked : (g : Grammar) (a : Items) (marks : List Bool) (bs : List Items) → IsKeptApartFrom g a bs → IsKeptApartFrom g a (marked_of marks bs)
apart_from_marked g a [] bs h = tt
apart_from_marked g a (m ∷ ms) [] h = tt
apart_from_marked g a (true ∷ ms) (b ∷ bs) (h, i) = (h, apart_from_marked g a ms bs i)
apart_from_marked g a (false ∷ ms) (b ∷ bs) (h, i) = apart_from_marked g a ms bs i

-- a part of a chain is a chain
pub chain_part : (g : Grammar) (marks : List Bool) (chain : List Items) → IsChain g chain → IsChain g (marked_of marks chain)
chain_part g [] chain c = tt
chain_part g (m ∷ ms) [] c = tt
chain_part g (true ∷ ms) (a ∷ bs) (r, h, c) = (r, apart_from_marked g a ms bs h, chain_part g ms bs c)
chain_part g (false ∷ ms) (a ∷ bs) (r, h, c) = chain_part g ms bs c

-- the part is as long as there are marks
pub length_marked : {X : Type 0} (marks : List Bool) (xs : List X) → length marks ≤ length xs → length (marked_of marks xs) ≡ count_by (λ b. b) marks
length_marked [] xs h = refl
length_marked (m ∷ ms) [] h = absurd (omega arith)
length_marked (true ∷ ms) (x ∷ xs) h = omega (arith, length_marked ms xs (omega arith), sum_by-cons (λ b. cond b 1 0) true ms)
length_marked (false ∷ ms) (x ∷ xs) h = omega (arith, length_marked ms xs (omega arith), sum_by-cons (λ b. cond b 1 0) false ms)
