-- the children of open nodes, as the code keeps them
use Rattle.std.proofs.Common.{◌≡◌, ℕ, ◌+◌, ◌-◌, ◌<◌, List, [], ◌∷◌, ◌++◌, length, reverse, take, set, get_or, Some, Vec, Global, sym, ap, ◌∙◌, subst, arith}
use Rattle.std.specs.Prelude.{IsSome}
use Rattle.std.proofs.lemmas.List.{reverse-append}
use Rattle.lrspec.specs.grammars.Trees as math
use Rattle.lrspec.specs.grammars.Trees.{Forest, Bare, And}
use Rattle.lrtree.specs.declared.trees.Tree.{Tree}
use Rattle.lrtree.specs.Visits.{Token, Enter}
use Rattle.lrtree.specs.Built.{with_visit}
use Rattle.lrtree.specs.StoredTrees.{tree_of, forest_of, forests_of}
use Rattle.lrtree.proofs.LastFirst.{pushed_first, last_first, set_first}

module _ {T : Type 0} (number : T → ℕ) where
  -- the children in a row, which is kept last child first
  abbrev pub row_of : Vec (Tree T) Global → Forest
  row_of row = forest_of number (reverse row.items)

  -- one more child
  pub row_pushed : (row new : Vec (Tree T) Global) (v : Tree T) → new.items ≡ row.items ++ v ∷ [] → row_of new ≡ And (tree_of number v) (row_of row)
  row_pushed row new v e = ap (λ l. forest_of number (reverse l)) e ∙ ap (forest_of number) (reverse-append row.items (v ∷ []))

  -- a token has a row to go to
  pub row_for_token : (rows : List (Vec (Tree T) Global)) (t : ℕ) → IsSome (with_visit (forests_of number rows) (Token t)) → 0 < length rows
  row_for_token [] t h = absurd (cc)
  row_for_token (r ∷ rows) t h = omega arith

  -- and so has a node
  pub row_for_node :
      (rows rest : List (Vec (Tree T) Global)) (children : Vec (Tree T) Global) (p : ℕ) → rows ≡ rest ++ children ∷ []
      → IsSome (with_visit (forests_of number rows) (Enter p)) → 0 < length rest
  row_for_node rows rest children p e h = by_rest rest (subst (λ l. IsSome (with_visit l (Enter p))) (ap (forests_of number) e ∙ pushed_first row_of rest children) h)
    where
      by_rest : (xs : List (Vec (Tree T) Global)) → IsSome (with_visit (row_of children ∷ forests_of number xs) (Enter p)) → 0 < length xs
      by_rest [] h = absurd (cc)
      by_rest (x ∷ xs) h = omega arith

  module _ (rows : List (Vec (Tree T) Global)) (n : ℕ) (count : n ≡ length rows) (some : 0 < length rows) (row new : Vec (Tree T) Global) (is : row ≡ get_or rows (n - 1) row) (v : Tree T) (pushed : new.items ≡ row.items ++ v ∷ []) where
    -- the rows but for the last one
    abbrev others : List Forest
    others = forests_of number (take (n - 1) rows)

    counted : n - 1 + 1 ≡ length rows
    counted = omega arith

    -- the last one has one more child
    child_more : Some (And (tree_of number v) (row_of row) ∷ others) ≡ Some (forests_of number (set rows (n - 1) new))
    child_more = ap (λ l. Some l) (ap (λ r. r ∷ others) (sym (row_pushed row new v pushed)) ∙ sym (set_first row_of rows (n - 1) counted new))

    -- a token is a leaf more
    pub token_added : (t : ℕ) → tree_of number v ≡ math.Leaf t → with_visit (forests_of number rows) (Token t) ≡ Some (forests_of number (set rows (n - 1) new))
    token_added t leaf =
        ap (λ l. with_visit l (Token t)) (last_first row_of rows (n - 1) counted row is) ∙ ap (λ u. Some (And u (row_of row) ∷ others)) (sym leaf) ∙ child_more

    -- a node is one more, over the children behind the rows
    pub node_added :
        (all : List (Vec (Tree T) Global)) (children : Vec (Tree T) Global) (p : ℕ) → all ≡ rows ++ children ∷ []
        → tree_of number v ≡ math.Node p (row_of children) → with_visit (forests_of number all) (Enter p) ≡ Some (forests_of number (set rows (n - 1) new))
    node_added all children p e node =
        ap (λ l. with_visit (forests_of number l) (Enter p)) e ∙ ap (λ l. with_visit l (Enter p)) (pushed_first row_of rows children ∙ ap (λ l. row_of children ∷ l) (last_first row_of rows (n - 1) counted row is))
        ∙ ap (λ u. Some (And u (row_of row) ∷ others)) (sym node) ∙ child_more

  -- one empty row is bare
  pub one_row : (rows front : List (Vec (Tree T) Global)) (row : Vec (Tree T) Global) → rows ≡ front ++ row ∷ [] → front ≡ [] → row.items ≡ [] → forests_of number rows ≡ Bare ∷ []
  one_row rows front row e none empty =
      ap (forests_of number) (e ∙ ap (λ l. l ++ row ∷ []) none) ∙ ap (λ l. forest_of number (reverse l) ∷ []) empty

  -- a row that is there is the last of the rows
  pub some_row : (rows : List (Vec (Tree T) Global)) (ts : Forest) → forests_of number rows ≡ ts ∷ [] → 0 < length rows
  some_row [] ts e = cc
  some_row (r ∷ rows) ts e = omega arith

  module _ (rows front : List (Vec (Tree T) Global)) (roots : Vec (Tree T) Global) (t : math.Tree) (built : forests_of number rows ≡ And t Bare ∷ []) (popped : rows ≡ front ++ roots ∷ []) where
    -- the only row has one tree
    root_row : row_of roots ≡ And t Bare
    root_row = let first : row_of roots ∷ forests_of number front ≡ And t Bare ∷ [] = sym (pushed_first row_of front roots) ∙ (ap (forests_of number) (sym popped) ∙ built) in cc

    -- so there is a root
    pub some_root : 0 < length roots.items
    some_root = by_items roots.items root_row
      where
        by_items : (vs : List (Tree T)) → forest_of number (reverse vs) ≡ And t Bare → 0 < length vs
        by_items [] e = cc
        by_items (v ∷ vs) e = omega arith

    -- which is the tree
    pub root_is : (others : List (Tree T)) (v : Tree T) → roots.items ≡ others ++ v ∷ [] → tree_of number v ≡ t
    root_is others v e =
        let first : And (tree_of number v) (forest_of number (reverse others)) ≡ And t Bare =
        ap (forest_of number) (sym (reverse-append others (v ∷ []))) ∙ (ap (λ l. forest_of number (reverse l)) (sym e) ∙ root_row) in
        cc
