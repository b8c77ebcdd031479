-- the step into a node, as the code makes it
use Rattle.std.proofs.Common.{◌≡◌, ℕ, List, [], ◌∷◌, ◌++◌, reverse, Vec, Global, sym, ap, ◌∙◌, append_assoc}
use Rattle.std.proofs.lemmas.List.{reverse-append}
use Rattle.lrtree.specs.declared.trees.Tree.{Tree}
use Rattle.lrtree.specs.declared.trees.Tree.TheViews.{Node}
use Rattle.lrtree.specs.declared.visits.Open.{Open}
use Rattle.lrtree.specs.Visits as visit
use Rattle.lrtree.specs.Visits.{Visit, tree_visits, forest_visits}
use Rattle.lrtree.specs.StoredTrees.{forest_of}
use Rattle.lrtree.specs.StoredVisits.{left_of_nodes}
use Rattle.lrtree.proofs.FoldedTrees.{tree_of_node}

module _ {T : Type 0} (number : T → ℕ) where
  -- what is left where these trees come next, and these nodes are open
  abbrev pub left_with : List (Tree T) → List (Open T) → List Visit
  left_with ts os = forest_visits (forest_of number ts) ++ left_of_nodes number (reverse os)

  -- the children of a node come next, and then its end and the trees behind it
  pub node_entered :
      (ts : List (Tree T)) (os new : List (Open T)) (o : Open T) (children : Vec (Tree T) Global)
      → ts ≡ Node o.pidx children ∷ o.behind.now → new ≡ os ++ o ∷ []
      → left_with ts os ≡ visit.Enter (number o.pidx.0) ∷ left_with children.items new
  node_entered ts os new o children first pushed =
      let inner = forest_visits (forest_of number children.items) in
      let end = visit.Leave (number o.pidx.0) ∷ [] in
      let behind = forest_visits (forest_of number o.behind.now) in
      let outer = left_of_nodes number (reverse os) in
      let innermost : left_of_nodes number (reverse new) ≡ left_of_nodes number (o ∷ reverse os) = ap (λ l. left_of_nodes number (reverse l)) pushed ∙ ap (left_of_nodes number) (reverse-append os (o ∷ [])) in
      ap (λ l. left_with l os) first
      ∙ ap (λ u. (tree_visits u ++ behind) ++ outer) (tree_of_node number o.pidx children)
      ∙ ap (λ l. visit.Enter (number o.pidx.0) ∷ l)
      (append_assoc (inner ++ end) behind outer ∙ append_assoc inner end (behind ++ outer) ∙ ap (λ l. inner ++ l) (sym innermost))
