-- how drawn trees are stored: node by node, with what is entered before each, and where each tree of a row ends
use Rattle.std.specs.Prelude.{◌≡◌, ℕ, ◌+◌, Bool, true, false, List, [], ◌∷◌, ◌++◌, map, Option, Some, None}
use Rattle.lrgrammar.specs.declared.grammar.PartSymbol.{PartSymbol}
use Rattle.lrshown.specs.declared.trees.Node.{Node}
use Rattle.lrshown.specs.declared.trees.Node.TheVariants as code
use Rattle.lrshown.specs.declared.trees.Visit.{Visit}
use Rattle.lrshown.specs.declared.trees.Visit.TheVariants as visit
use Rattle.lrshown.specs.declared.trees.Tree as stored
use Rattle.lrshown.specs.DrawnTrees.{Drawn, Row, Leaf, Over, Bare, And, row_nodes, size}

-- what stands at the root of a tree for a symbol
abbrev pub with_symbol : PartSymbol → Node → Node
with_symbol s (code.Leaf u) = code.Leaf s
with_symbol s (code.Inner p) = code.Inner p

-- whether what comes next to a node is over it, by what is entered before that; or nothing comes
abbrev pub is_over : Option Node → List ℕ → Bool
is_over None entered = true
is_over (Some (code.Leaf s)) entered = false
is_over (Some (code.Inner p)) [] = true
is_over (Some (code.Inner p)) (m ∷ ms) = false

-- one comes to a node, behind what stands below it
abbrev pub visit_of : ℕ → Node → Visit
visit_of n (code.Leaf s) = visit.Leaf n
visit_of n (code.Inner p) = visit.Leave n

-- another production is entered before the first of some nodes
abbrev pub with_first : ℕ → List (List ℕ) → List (List ℕ)
with_first m [] = []
with_first m (e ∷ es) = (e ++ m ∷ []) ∷ es

abbrev mutual
  -- for each node of a tree those that are entered before it, the last one of these first
  pub entered : ℕ → Drawn → List (List ℕ)
  entered n (Leaf s) = [] ∷ []
  entered n (Over p ts) = with_first (n + size ts) (row_entered n ts ++ [] ∷ [])

  -- and for each node of trees in a row
  pub row_entered : ℕ → Row → List (List ℕ)
  row_entered n Bare = []
  row_entered n (And ts t) = row_entered n ts ++ entered (n + size ts) t

-- where each tree of a row ends: how many nodes there are with it
abbrev pub ends : Row → List ℕ
ends Bare = []
ends (And ts t) = ends ts ++ size (And ts t) ∷ []

-- the code's tree is these trees in a row
pub record IsDrawn (t : stored.Tree) (ts : Row) : Type 0 where
  pub nodes_are : t.nodes.items ≡ row_nodes ts
  pub entered_are : map (λ v. v.items) t.entered.items ≡ row_entered 0 ts

-- while trees are put together: these in a row, and nodes behind them, which will stand below another one
pub record IsLaid (t : stored.Tree) (ts : Row) (below : List Node) : Type 0 where
  pub nodes_are : t.nodes.items ≡ row_nodes ts ++ below
  pub ends_are : t.ends.items ≡ ends ts

-- the same, where none stands behind them
pub record IsBuilt (t : stored.Tree) (ts : Row) : Type 0 where
  pub drawn : IsDrawn t ts
  pub ends_are : t.ends.items ≡ ends ts
