-- by which productions runs reduce
use Rattle.std.proofs.Common.{◌≡◌, ℕ, ◌<◌, List, [], ◌∷◌, ◌++◌, length, map, subst}
use Rattle.std.specs.Prelude.{All}
use Rattle.std.proofs.lemmas.List.{get_or-map, length-map}
use Rattle.std.proofs.lemmas.List.Elements.{All-nil, All-cons, All-append}
use Rattle.lrspec.specs.grammars.Grammar.{Symbol, Grammar, IsGrammar}
use Rattle.lrspec.specs.grammars.Trees as tree
use Rattle.lrspec.specs.grammars.Trees.{Tree, Forest, order, forest_order, IsTree, IsForest}
use Rattle.lrspec.specs.tables.Table.{Table, IsTableFor}
use Rattle.lrspec.specs.tables.Machine.{run}
use Rattle.lrspec.specs.tables.Recognition.{AreNamed}
use Rattle.lrspec.proofs.grammars.BodyFacts.{below_of_production}
use Rattle.lrspec.proofs.tables.MachineRuns.{run_comes}

-- these are productions of the grammar
abbrev pub AreProductions : Grammar → List ℕ → Type 0
AreProductions g ps = All (λ p. p < length g.productions) ps

-- one more, at the end
own : (g : Grammar) (p : ℕ) (ps : List ℕ) → p < length g.productions → AreProductions g ps → AreProductions g (ps ++ p ∷ [])
own g p ps l h =
    let P : ℕ → Type 0 = λ q. q < length g.productions in
    All-append P ps (p ∷ []) h (All-cons P p [] l (All-nil P))

mutual
  -- those of a tree are
  tree_productions : {g : Grammar} {x : Symbol} {t : Tree} → IsTree g x t → AreProductions g (order t)
  tree_productions {g} tree.IsTree.token = All-nil (λ p. p < length g.productions)
  tree_productions {g} (tree.IsTree.production {p = p} {r = r} {ts = ts} h k) = own g p (forest_order ts) (below_of_production g p r h) (forest_productions k)

  -- and those of trees in a row
  forest_productions : {g : Grammar} {xs : List Symbol} {ts : Forest} → IsForest g xs ts → AreProductions g (forest_order ts)
  forest_productions {g} tree.IsForest.bare = All-nil (λ p. p < length g.productions)
  forest_productions {g} (tree.IsForest.and {t = t} {ts = ts} h k) = All-append (λ p. p < length g.productions) (order t) (forest_order ts) (tree_productions h) (forest_productions k)

-- each run reduces by productions of the grammar
pub reduces_by_productions : (g : Grammar) (b : Table) (n : ℕ) (text : List ℕ) → IsGrammar g → IsTableFor g b → AreNamed g text → AreProductions g (run g b n text).reductions
reduces_by_productions g b n text m k named =
    let c = run_comes g k.graph b m k.graph_of k.table_of text named n in
    subst (AreProductions g) c.holds.made (forest_productions c.holds.roots)

-- what holds of the images of all elements
pub of_images : {X : Type 0} (P : ℕ → Type 0) (f : X → ℕ) (xs : List X) (ns : List ℕ) → map f xs ≡ ns → All P ns → All (λ x. P (f x)) xs
of_images P f xs ns e h k d l =
    let images : All P (map f xs) = rw e h in
    subst P (get_or-map f xs k d (f d) l) (images k (f d) (rw length-map l))
