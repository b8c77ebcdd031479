-- trees, their leaves and productions, and sentences
use Rattle.std.specs.Prelude.{◌≡◌, ℕ, zero, suc, List, [], ◌∷◌, ◌++◌, length}
use Rattle.lrspec.specs.grammars.Grammar.{Symbol, Rule, Token, Grammar, body_of, IsProductionOf}

mutual
  -- a token, or a production over its children
  pub data Tree : Type 0 where
    Leaf : ℕ → Tree
    Node : ℕ → Forest → Tree

  -- trees in a row
  pub data Forest : Type 0 where
    Bare : Forest
    And : Tree → Forest → Forest

abbrev mutual
  -- the tokens of a tree from left to right
  pub leaves : Tree → List ℕ
  leaves (Leaf t) = t ∷ []
  leaves (Node p ts) = forest_leaves ts

  -- and those of trees in a row
  pub forest_leaves : Forest → List ℕ
  forest_leaves Bare = []
  forest_leaves (And t ts) = leaves t ++ forest_leaves ts

abbrev mutual
  -- the productions of a tree, children from left to right and then its own
  pub order : Tree → List ℕ
  order (Leaf t) = []
  order (Node p ts) = forest_order ts ++ p ∷ []

  -- and those of trees in a row
  pub forest_order : Forest → List ℕ
  forest_order Bare = []
  forest_order (And t ts) = order t ++ forest_order ts

mutual
  -- the tree derives the symbol
  pub data IsTree (g : Grammar) : Symbol → Tree → Type 0 where
    token : {t : ℕ} → IsTree g (Token t) (Leaf t)
    production :
        {p r : ℕ} {ts : Forest} → IsProductionOf g p r → IsForest g (body_of g p) ts
        → IsTree g (Rule r) (Node p ts)

  -- the trees derive the symbols one by one
  pub data IsForest (g : Grammar) : List Symbol → Forest → Type 0 where
    bare : IsForest g [] Bare
    and :
        {x : Symbol} {xs : List Symbol} {t : Tree} {ts : Forest}
        → IsTree g x t → IsForest g xs ts
        → IsForest g (x ∷ xs) (And t ts)

-- the trees of two forests, one after the other
abbrev pub joined : Forest → Forest → Forest
joined Bare us = us
joined (And t ts) us = And t (joined ts us)

-- how many trees a forest has
abbrev pub size : Forest → ℕ
size Bare = 0
size (And t ts) = suc (size ts)

-- the first `n` trees of a forest
abbrev pub first_trees : ℕ → Forest → Forest
first_trees zero ts = Bare
first_trees (suc n) Bare = Bare
first_trees (suc n) (And t ts) = And t (first_trees n ts)

-- the trees behind the first `n`
abbrev pub trees_behind : ℕ → Forest → Forest
trees_behind zero ts = ts
trees_behind (suc n) Bare = Bare
trees_behind (suc n) (And t ts) = trees_behind n ts

-- how many productions a tree has, which are its nodes
abbrev pub nodes : Tree → ℕ
nodes t = length (order t)

-- the body of the start production is the start rule alone, and a sentence is the leaves of a tree
-- for it
pub record IsSentence (g : Grammar) (w : List ℕ) : Type 0 where
  pub rule : ℕ
  pub tree : Tree
  pub start : body_of g g.start_production ≡ Rule rule ∷ []
  pub is_tree : IsTree g (Rule rule) tree
  pub leaves_are : leaves tree ≡ w
