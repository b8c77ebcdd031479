-- the nodes whose text is written in part
use Rattle.std.proofs.Common.{◌≡◌, ℕ, ◌+◌, ◌<◌, List, [], ◌∷◌, ◌++◌, length, reverse, refl, sym, ap, ◌∙◌, append_assoc, append-nil, subst, arith}
use Rattle.lrspec.specs.grammars.Grammar.{Grammar, Rule, body_of}
use Rattle.lrspec.specs.grammars.Trees as tree
use Rattle.lrspec.specs.grammars.Trees.{Tree, Forest, Node, order, forest_order, IsTree, IsForest}
use Rattle.lrspec.specs.texts.TreeTexts.{tree_text}
use Rattle.lrspec.proofs.grammars.BodyFacts.{below_of_production}
use Rattle.lrtree.specs.Pieces.{pieces_of}
use Rattle.lrtree.proofs.PieceTexts.{nodes_in, orders, forest_orders, IsNode, AreNodes, forest_nodes, filled, pieces_count, node_filled}

-- the productions left and the text that is not written are those of the nodes between these pieces, and before these
-- productions and behind this text `P` holds
pub record PiecesThen (g : Grammar) (cs : List (List ℕ)) (P : List ℕ → List ℕ → Type 0) (rs text : List ℕ) : Type 0 where
  pub nodes : List Tree
  pub are_nodes : AreNodes g nodes
  pub fits : length cs ≡ length nodes + 1
  pub before : List ℕ
  pub behind : List ℕ
  pub productions : before ++ orders nodes ≡ rs
  pub texts : filled g cs nodes ++ behind ≡ text
  pub then : P before behind

-- with these pieces of the nodes in work, the innermost one first, and these productions left the text is not written
abbrev pub Remains : Grammar → List (List (List ℕ)) → List ℕ → List ℕ → Type 0
Remains g [] rs text = (rs ≡ []) × (text ≡ [])
Remains g (cs ∷ css) rs text = PiecesThen g cs (Remains g css) rs text

module _ (g : Grammar) where
  -- a node, before others of which something remains
  node_remains :
      (p : ℕ) (ts : Forest) (css : List (List (List ℕ))) (before behind : List ℕ) → IsForest g (body_of g p) ts → Remains g css before behind
      → Remains g (pieces_of g p ∷ css) (before ++ forest_order ts) (reverse (tree_text g (Node p ts)) ++ behind)
  node_remains p ts css before behind f then = record {
    nodes = nodes_in ts;
    are_nodes = forest_nodes g f;
    fits = pieces_count g p ts f;
    before = before;
    behind = behind;
    productions = ap (λ l. before ++ l) (sym (forest_orders ts));
    texts = ap (λ l. l ++ behind) (node_filled g p ts f);
    then = then;
  }

  -- a tree for a rule is a node of the grammar
  node_of_rule : {r : ℕ} {t : Tree} → IsTree g (Rule r) t → IsNode g t
  node_of_rule (tree.production {p = p} {r = r} {ts = ts} i f) = (p, ts, refl, below_of_production g p r i, f)

  -- in the beginning the whole tree remains, whose production is the last one
  pub root_remains :
      (r : ℕ) (t : Tree) (rs : List ℕ) → IsTree g (Rule r) t → order t ≡ rs
      → (p : ℕ) × (left : List ℕ) × (rs ≡ left ++ p ∷ []) × (p < length g.productions)
      × Remains g (pieces_of g p ∷ []) left (reverse (tree_text g t))
  root_remains r t rs is productions =
      let (p, ts, node, there, f) = node_of_rule is in (
        p,
        forest_order ts,
        sym productions ∙ ap order node,
        there,
        subst (λ l. Remains g (pieces_of g p ∷ []) (forest_order ts) l) (append-nil (reverse (tree_text g (Node p ts))) ∙ ap (λ u. reverse (tree_text g u)) (sym node))
            (node_remains p ts [] [] [] f (refl, refl)),
      )

  -- its last piece: the others go on
  pub last_piece :
      (c : List ℕ) (css : List (List (List ℕ))) (rs text : List ℕ) → Remains g ((c ∷ []) ∷ css) rs text
      → (rest : List ℕ) × (text ≡ c ++ rest) × Remains g css rs rest
  last_piece c css rs text k = none k.nodes refl
    where
      none : (ks : List Tree) → ks ≡ k.nodes → (rest : List ℕ) × (text ≡ c ++ rest) × Remains g css rs rest
      none [] e = (
        k.behind,
        sym k.texts ∙ ap (λ ks. filled g (c ∷ []) ks ++ k.behind) (sym e),
        subst (λ l. Remains g css l k.behind) (sym (append-nil k.before) ∙ (ap (λ ks. k.before ++ orders ks) e ∙ k.productions)) k.then,
      )
      none (j ∷ ks) e = absurd (omega (arith, k.fits, ap length e))

  -- another piece: a node stands before it, whose production is the last one that is left
  pub node_begins :
      (c : List ℕ) (cs : List (List ℕ)) (css : List (List (List ℕ))) (rs text : List ℕ) → 0 < length cs → Remains g ((c ∷ cs) ∷ css) rs text
      → (p : ℕ) × (left : List ℕ) × (rest : List ℕ) × (rs ≡ left ++ p ∷ []) × (p < length g.productions) × (text ≡ c ++ rest)
      × Remains g (pieces_of g p ∷ cs ∷ css) left rest
  node_begins c cs css rs text more k = some k.nodes refl
    where
      some :
          (ks : List Tree) → ks ≡ k.nodes
          → (p : ℕ) × (left : List ℕ) × (rest : List ℕ) × (rs ≡ left ++ p ∷ []) × (p < length g.productions) × (text ≡ c ++ rest)
          × Remains g (pieces_of g p ∷ cs ∷ css) left rest
      some [] e = absurd (omega (arith, more, k.fits, ap length e))
      some (j ∷ ks) e =
          let are : AreNodes g (j ∷ ks) = subst (AreNodes g) (sym e) k.are_nodes in
          let (p, ts, node, there, f) = are.0 in
          let front : List ℕ = k.before ++ orders ks in
          let later : List ℕ = filled g cs ks ++ k.behind in
          let own : List ℕ = reverse (tree_text g j) in
          let outer : Remains g (cs ∷ css) front later =
          record {
            nodes = ks;
            are_nodes = are.1;
            fits = omega (arith, k.fits, ap length e);
            before = k.before;
            behind = k.behind;
            productions = refl;
            texts = refl;
            then = k.then;
          } in (
            p,
            front ++ forest_order ts,
            own ++ later,
            sym k.productions ∙ ap (λ ks. k.before ++ orders ks) (sym e) ∙ sym (append_assoc k.before (orders ks) (order j))
                ∙ ap (λ u. front ++ order u) node ∙ sym (append_assoc front (forest_order ts) (p ∷ [])),
            there,
            sym k.texts ∙ ap (λ ks. filled g (c ∷ cs) ks ++ k.behind) (sym e)
                ∙ append_assoc c (own ++ filled g cs ks) k.behind ∙ ap (λ l. c ++ l) (append_assoc own (filled g cs ks) k.behind),
            subst (λ u. Remains g (pieces_of g p ∷ cs ∷ css) (front ++ forest_order ts) (reverse (tree_text g u) ++ later)) (sym node)
                (node_remains p ts (cs ∷ css) front later f outer),
          )
