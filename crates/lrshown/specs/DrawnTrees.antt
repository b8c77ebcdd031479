-- drawn trees: what steps put together, their nodes, each behind those below it, and their visits from left to right
use Rattle.std.specs.Prelude.{nat_lt, take, ◌-◌, Option, Some, None, ℕ, ◌+◌, ◌==◌, Bool, true, false, List, [], ◌∷◌, ◌++◌, length, reverse, slice_get, if◌then◌else◌}
use Rattle.std.specs.Option.{option_map_or}
use Rattle.lrgrammar.specs.declared.grammar.PartSymbol.{PartSymbol}
use Rattle.lrgrammar.specs.declared.grammar.PartSymbol.TheVariants.{Token}
use Rattle.lryacc.specs.declared.numbering.FileGrammar.{FileGrammar}
use Rattle.lrshown.specs.declared.steps.Step.{Step}
use Rattle.lrshown.specs.declared.steps.Step.TheVariants.{Shift, Reduce}
use Rattle.lrshown.specs.declared.trees.Node.{Node}
use Rattle.lrshown.specs.declared.trees.Node.TheVariants as code
use Rattle.lrshown.specs.declared.trees.Visit.{Visit}
use Rattle.lrshown.specs.declared.trees.Visit.TheVariants as visit

mutual
  -- a symbol, or a production over the trees below it
  pub data Drawn : Type 0 where
    Leaf : PartSymbol → Drawn
    Over : ℕ → Row → Drawn

  -- trees in a row
  pub data Row : Type 0 where
    Bare : Row
    And : Row → Drawn → Row

-- the symbols of the body of a production
abbrev pub body : FileGrammar → ℕ → List PartSymbol
body file p = option_map_or (λ prod. prod.symbols.items) (slice_get file.parts.prods.items p) []

-- a tree for a symbol of a body: a leaf is that symbol
abbrev pub called : PartSymbol → Drawn → Drawn
called s (Leaf u) = Leaf s
called s (Over p ts) = Over p ts

-- the last trees of a row, one for each of the symbols, of which the last one comes first
abbrev pub last_trees : List PartSymbol → Row → Row
last_trees [] ts = Bare
last_trees (s ∷ ss) Bare = Bare
last_trees (s ∷ ss) (And ts t) = And (last_trees ss ts) (called s t)

-- the trees before these
abbrev pub trees_before : List PartSymbol → Row → Row
trees_before [] ts = ts
trees_before (s ∷ ss) Bare = Bare
trees_before (s ∷ ss) (And ts t) = trees_before ss ts

-- a node of the production over the last trees of a row
abbrev pub reduced : ℕ → List PartSymbol → Row → Row
reduced p symbols ts = And (trees_before symbols ts) (Over p (last_trees symbols ts))

-- what a step makes of trees in a row: a shift adds a leaf, whose symbol is not known until it stands below something
abbrev pub with_step : FileGrammar → Row → Step → Row
with_step file ts Shift = And ts (Leaf (Token 0))
with_step file ts (Reduce p) = reduced p (reverse (body file p)) ts

-- what steps make of them, one after the other
abbrev pub with_steps : FileGrammar → Row → List Step → Row
with_steps file ts [] = ts
with_steps file ts (s ∷ ss) = with_steps file (with_step file ts s) ss

abbrev mutual
  -- the nodes of a tree, each behind those below it
  pub nodes : Drawn → List Node
  nodes (Leaf s) = code.Leaf s ∷ []
  nodes (Over p ts) = row_nodes ts ++ code.Inner p ∷ []

  -- and those of trees in a row
  pub row_nodes : Row → List Node
  row_nodes Bare = []
  row_nodes (And ts t) = row_nodes ts ++ nodes t

-- how many nodes trees in a row have
abbrev pub size : Row → ℕ
size ts = length (row_nodes ts)

abbrev mutual
  -- the visits of a tree from left to right, whose nodes have numbers from this one on
  pub visits : ℕ → Drawn → List Visit
  visits n (Leaf s) = visit.Leaf n ∷ []
  visits n (Over p ts) = visit.Enter (n + size ts) ∷ row_visits n ts ++ visit.Leave (n + size ts) ∷ []

  -- and those of trees in a row
  pub row_visits : ℕ → Row → List Visit
  row_visits n Bare = []
  row_visits n (And ts t) = row_visits n ts ++ visits (n + size ts) t

abbrev mutual
  -- for each node of a tree whether it is the last one in its row; of the root it is known
  pub lasts : Bool → Drawn → List Bool
  lasts b (Leaf s) = b ∷ []
  lasts b (Over p ts) = row_lasts true ts ++ b ∷ []

  -- and for those of trees in a row
  pub row_lasts : Bool → Row → List Bool
  row_lasts b Bare = []
  row_lasts b (And ts t) = row_lasts false ts ++ lasts b t

-- whether a production is one of `$accept`
abbrev pub is_accept : FileGrammar → ℕ → Bool
is_accept file p = option_map_or (λ prod. prod.rule == 0) (slice_get file.parts.prods.items p) false

-- the trees that steps put together, and those behind them
abbrev pub trees_by : FileGrammar → List Step → List Step → Row
trees_by file before behind = with_steps file Bare (before ++ behind)

-- the production of `$accept` that a step puts over what there is, if it is such a step
abbrev pub accepted : FileGrammar → Option Step → Option ℕ
accepted file None = None
accepted file (Some Shift) = None
accepted file (Some (Reduce p)) = if is_accept file p then Some p else None

-- the start rule below it: the last symbol of its body but one, behind which stands the token that ends all
abbrev pub start_below : FileGrammar → ℕ → Option PartSymbol
start_below file p = if nat_lt (length (body file p)) 2 then None else slice_get (body file p) (length (body file p) - 2)

-- trees in a row, of which the last one is one for a symbol
abbrev pub with_last : Option PartSymbol → Row → Row
with_last None ts = ts
with_last (Some s) Bare = Bare
with_last (Some s) (And ts t) = And ts (called s t)

-- the same trees without a node of `$accept`, if one is put over all by the last step, and without the token that ends all,
-- which the step before that shifts; then the start rule is the last one of them
abbrev pub without_accept : FileGrammar → List Step → List Step → Option ℕ → Row
without_accept file before behind None = trees_by file before behind
without_accept file before behind (Some p) =
    with_last (start_below file p) (trees_by file before (take (length behind - 2) behind))

-- the trees that are drawn of steps
abbrev pub drawn_by : FileGrammar → List Step → List Step → Row
drawn_by file before behind = without_accept file before behind (accepted file (slice_get behind (length behind - 1)))
