-- without a crowded cell the machine works off each tree
use Rattle.std.proofs.Common.{◌≡◌, ◌≢◌, ℕ, suc, ◌+◌, ◌<◌, List, [], ◌∷◌, ◌++◌, length, refl, ◌∙◌, append_assoc, append-nil, arith, length-append, zero-add, add-zero}
use Rattle.lrspec.specs.grammars.Grammar.{Symbol, Rule, Token, Grammar, IsGrammar, body_of, rest, IsProductionOf}
use Rattle.lrspec.specs.grammars.CanonicalItems as item
use Rattle.lrspec.specs.grammars.CanonicalItems.{Stands, Looks}
use Rattle.lrspec.specs.merging.Graph.{Graph, closed_of, IsGraphOf}
use Rattle.lrspec.specs.tables.Table as table
use Rattle.lrspec.specs.tables.Table.{Table, action_of, IsTableOf, NoCellIsCrowded}
use Rattle.lrspec.specs.tables.Machine.{next_token, top}
use Rattle.lrspec.specs.grammars.Trees.{Tree, Forest, Node, And, leaves, forest_leaves, order, forest_order, IsTree, IsForest, token, production, bare, and}
use Rattle.lrspec.proofs.grammars.BodyFacts.{below_of_production, rest_next, symbol_at_dot, start_not_before}
use Rattle.lrspec.proofs.grammars.CanonicalItemFacts.{stands_of_looks}
use Rattle.lrspec.proofs.tables.UncrowdedCells.{only_shift, only_reduce}
use Rattle.lrspec.proofs.tables.MachineStacks as stack
use Rattle.lrspec.proofs.tables.MachineStacks.{IsStack, stack_leads, stack_length, stack_below, stack_edge, goto_is, look_fits}
use Rattle.lrspec.proofs.tables.NextTokens.{child_looks}
use Rattle.lrspec.proofs.tables.MachineMoves as move
use Rattle.lrspec.proofs.tables.MachineMoves.{Moves, at, moves_append, move_by_shift, move_by_reduce}

module _ (g : Grammar) (h : Graph) (b : Table) (m : IsGrammar g) (k : IsGraphOf g h) (o : IsTableOf g h b) (alone : NoCellIsCrowded g h) where
  -- a tree is worked off over any stack: as many steps as leaves and nodes lead to one state more
  abbrev TreeRuns : List Symbol → List ℕ → List ℕ → List ℕ → Symbol → Tree → Type 0
  TreeRuns w ss v rs x t =
      (u : ℕ) × (n : ℕ) × (n ≡ length (leaves t) + length (order t)) × IsStack h (w ++ x ∷ []) (u ∷ ss)
      × Moves g b n (at ss (leaves t ++ v) rs) (at (u ∷ ss) v (rs ++ order t))

  -- and so is a forest of what stands behind a dot, with which the item comes to its end
  abbrev ForestRuns : List Symbol → List ℕ → List ℕ → List ℕ → ℕ → ℕ → List Symbol → Forest → Type 0
  ForestRuns w ss v rs q d y ts =
      (us : List ℕ) × (n : ℕ) × (n ≡ length (forest_leaves ts) + length (forest_order ts)) × (length us ≡ length y)
      × IsStack h (w ++ y) (us ++ ss) × Looks g (w ++ y) q (d + length y) (next_token g v)
      × Moves g b n (at ss (forest_leaves ts ++ v) rs) (at (us ++ ss) v (rs ++ forest_order ts))

  -- a token is worked off by a shift
  token_runs :
      (w : List Symbol) (ss v rs : List ℕ) (p d t : ℕ) (y : List Symbol) → IsStack h w ss → Stands g w p d → rest g p d ≡ Token t ∷ y
      → (u : ℕ) × IsStack h (w ++ Token t ∷ []) (u ∷ ss) × Moves g b 1 (at ss (t ∷ v) rs) (at (u ∷ ss) v rs)
  token_runs w ss v rs p d t y l s e =
      let ed = stack_edge (Token t) k l s (y, e) in
      let below = stack_below m k l in
      let small : t < length g.token_names = symbol_at_dot m p d (Token t) (y, e) in
      let cell = o.cells (top ss) t below (omega arith) ∙ only_shift g h (top ss) t ed.0 (alone (top ss) t below) ed.1 in
      (ed.0, stack.IsStack.push (Token t) l ed.1, move_by_shift g b t ed.0 ss v rs cell)

  -- where a complete production looks at the token after the symbols, it is the only one, and the cell reduces by it
  cell_reduces :
      (w : List Symbol) (ss : List ℕ) (q t : ℕ) → IsStack h w ss → q < length g.productions → q ≢ g.start_production
      → Looks g w q (length (body_of g q)) t → action_of b (top ss) t ≡ table.Action.Reduce q
  cell_reduces w ss q t l small differ i =
      let below = stack_below m k l in
      let looks = k.hold.looks w (top ss) q (length (body_of g q)) t (stack_leads l) i in
      o.cells (top ss) t below (look_fits (closed_of h (top ss)) q (length (body_of g q)) t (k.closures.fit_closed (top ss) below) looks).1
      ∙ only_reduce g h (top ss) t q (alone (top ss) t below) small differ looks

  -- a node is worked off by its children and then a reduction
  node_runs :
      (w : List Symbol) (ss v rs : List ℕ) (q r p d : ℕ) (y : List Symbol) (ts : Forest) → IsProductionOf g q r → IsStack h w ss
      → Stands g w p d → rest g p d ≡ Rule r ∷ y → ForestRuns w ss v rs q 0 (body_of g q) ts → TreeRuns w ss v rs (Rule r) (Node q ts)
  node_runs w ss v rs q r p d y ts i l s e (us, n, c, len, st, a, mv) =
      let ed = stack_edge (Rule r) k l s (y, e) in
      let differ : q ≢ g.start_production = λ f. start_not_before m p d r (y, e) (rw f at i) in
      let cell = cell_reduces (w ++ body_of g q) (us ++ ss) q (next_token g v) st (below_of_production g q r i) differ (rw zero-add at a) in
      let goto = goto_is m o (top ss) q r (stack_below m k l) i ∙ ed.1 in (
        ed.0,
        n + 1,
        omega (arith, c, length-append (forest_order ts) (q ∷ [])),
        stack.IsStack.push (Rule r) l ed.1,
        rw (← append_assoc) (moves_append mv (move_by_reduce g b q ed.0 us ss v (rs ++ forest_order ts) len (omega (arith, stack_length l)) cell goto)),
      )

  -- a tree and then the forest behind it
  and_runs :
      (w : List Symbol) (ss v rs : List ℕ) (q d : ℕ) (x : Symbol) (y : List Symbol) (t : Tree) (ts : Forest) (u n : ℕ)
      → n ≡ length (leaves t) + length (order t)
      → Moves g b n (at ss (leaves t ++ (forest_leaves ts ++ v)) rs) (at (u ∷ ss) (forest_leaves ts ++ v) (rs ++ order t))
      → ForestRuns (w ++ x ∷ []) (u ∷ ss) v (rs ++ order t) q (suc d) y ts → ForestRuns w ss v rs q d (x ∷ y) (And t ts)
  and_runs w ss v rs q d x y t ts u n i mv (us, j, c, len, st, a, mw) = (
    us ++ u ∷ [],
    n + j,
    omega (arith, i, c, length-append (leaves t) (forest_leaves ts), length-append (order t) (forest_order ts)),
    omega (arith, len, length-append us (u ∷ [])),
    rw (append_assoc us (u ∷ []) ss) (rw (append_assoc w (x ∷ []) y) at st),
    (let e : d + suc (length y) ≡ suc d + length y = omega arith in rw e (rw (append_assoc w (x ∷ []) y) at a)),
    rw (append_assoc (leaves t) (forest_leaves ts) v, append_assoc us (u ∷ []) ss, ← append_assoc rs (order t) (forest_order ts)) (moves_append mv mw),
  )

  -- the forest starts over the stack that the tree has left
  run_and :
      (w : List Symbol) (ss v rs : List ℕ) (q d : ℕ) (x : Symbol) (y : List Symbol) (t : Tree) (ts : Forest)
      → TreeRuns w ss (forest_leaves ts ++ v) rs x t
      → ((u : ℕ) → IsStack h (w ++ x ∷ []) (u ∷ ss) → ForestRuns (w ++ x ∷ []) (u ∷ ss) v (rs ++ order t) q (suc d) y ts)
      → ForestRuns w ss v rs q d (x ∷ y) (And t ts)
  run_and w ss v rs q d x y t ts (u, n, i, l, mv) f = and_runs w ss v rs q d x y t ts u n i mv (f u l)

  mutual
    -- each tree of the symbol before which an item stands is worked off, where its productions look at what follows
    pub tree_runs :
        {x : Symbol} {t : Tree} → IsTree g x t → (w : List Symbol) (ss v rs : List ℕ) (p d : ℕ) (y : List Symbol) → IsStack h w ss
        → Stands g w p d → rest g p d ≡ x ∷ y → ((q r : ℕ) → x ≡ Rule r → IsProductionOf g q r → Looks g w q 0 (next_token g v))
        → TreeRuns w ss v rs x t
    tree_runs (token {t = t}) w ss v rs p d y l s e a =
        let r = token_runs w ss v rs p d t y l s e in (r.0, 1, refl, r.1, rw append-nil r.2)
    tree_runs (production {p = q} {r = r} {ts = ts} i f) w ss v rs p d y l s e a =
        node_runs w ss v rs q r p d y ts i l s e (forest_runs f w ss v rs q 0 l (a q r refl i) refl)

    -- and each forest of what stands behind the dot, where the item looks at what follows
    pub forest_runs :
        {y : List Symbol} {ts : Forest} → IsForest g y ts → (w : List Symbol) (ss v rs : List ℕ) (q d : ℕ) → IsStack h w ss
        → Looks g w q d (next_token g v) → rest g q d ≡ y → ForestRuns w ss v rs q d y ts
    forest_runs bare w ss v rs q d l a e = ([], 0, refl, refl, rw append-nil l, rw (append-nil, add-zero) a, rw append-nil move.Moves.none)
    forest_runs (and {x = x} {xs = y} {t = t} {ts = ts} i f) w ss v rs q d l a e =
        run_and w ss v rs q d x y t ts
        (tree_runs i w ss (forest_leaves ts ++ v) rs q d y l (stands_of_looks a) e (λ n r c j. child_looks v a (rw c at e) j f))
        (λ u c. forest_runs f (w ++ x ∷ []) (u ∷ ss) v (rs ++ order t) q (suc d) c (item.Looks.advance a e) (rest_next (body_of g q) d x y e))
