-- the pieces of a node, and the texts of its children between them, are its text
use Rattle.std.proofs.Common.{◌≡◌, ℕ, ◌+◌, ◌<◌, List, [], ◌∷◌, ◌++◌, length, reverse, codes, refl, sym, ap, ◌∙◌, append_assoc, append-nil, length-append, arith}
use Rattle.std.proofs.lemmas.List.{reverse-append}
use Rattle.lrspec.specs.grammars.Grammar.{Symbol, Grammar, body_of}
use Rattle.lrspec.specs.grammars.Trees as tree
use Rattle.lrspec.specs.grammars.Trees.{Tree, Forest, Leaf, Node, Bare, And, order, forest_order, IsTree, IsForest}
use Rattle.lrspec.specs.texts.PrintedTexts.{token_text}
use Rattle.lrspec.specs.texts.TreeTexts.{tree_text, forest_text, others_text}
use Rattle.lrspec.proofs.grammars.BodyFacts.{below_of_production}
use Rattle.lrtree.specs.Pieces.{Draft, node_text, with_gap, draft_of, pieces_of}

-- the trees in a row that are nodes, the last one first
abbrev pub nodes_in : Forest → List Tree
nodes_in Bare = []
nodes_in (And (Leaf t) ts) = nodes_in ts
nodes_in (And (Node p us) ts) = nodes_in ts ++ Node p us ∷ []

-- the productions of trees in a row, the last one of which comes first
abbrev pub orders : List Tree → List ℕ
orders [] = []
orders (k ∷ ks) = orders ks ++ order k

orders_pushed : (ks : List Tree) (k : Tree) → orders (ks ++ k ∷ []) ≡ order k ++ orders ks
orders_pushed [] k = sym (append-nil (order k))
orders_pushed (j ∷ ks) k = ap (λ l. l ++ order j) (orders_pushed ks k) ∙ append_assoc (order k) (orders ks) (order j)

-- those of all trees are those of the nodes
pub forest_orders : (ts : Forest) → forest_order ts ≡ orders (nodes_in ts)
forest_orders Bare = refl
forest_orders (And (Leaf t) ts) = forest_orders ts
forest_orders (And (Node p us) ts) = ap (λ l. order (Node p us) ++ l) (forest_orders ts) ∙ sym (orders_pushed (nodes_in ts) (Node p us))

-- two texts, of which the second is turned round, and a third one before that
three : (a b c d : List ℕ) → a ≡ b ++ reverse c → a ++ reverse d ≡ b ++ reverse (d ++ c)
three a b c d e = ap (λ l. l ++ reverse d) e ∙ append_assoc b (reverse c) (reverse d) ∙ ap (λ l. b ++ l) (sym (reverse-append d c))

module _ (g : Grammar) where
  -- a node of the grammar
  abbrev pub IsNode : Tree → Type 0
  IsNode k = (p : ℕ) × (ts : Forest) × (k ≡ Node p ts) × (p < length g.productions) × IsForest g (body_of g p) ts

  -- nodes of the grammar
  abbrev pub AreNodes : List Tree → Type 0
  AreNodes [] = Unit {0}
  AreNodes (k ∷ ks) = IsNode k × AreNodes ks

  nodes_pushed : (ks : List Tree) (k : Tree) → AreNodes ks → IsNode k → AreNodes (ks ++ k ∷ [])
  nodes_pushed [] k are is = (is, tt)
  nodes_pushed (j ∷ ks) k are is = (are.0, nodes_pushed ks k are.1 is)

  -- the nodes among trees of symbols are nodes of the grammar
  pub forest_nodes : {xs : List Symbol} {ts : Forest} → IsForest g xs ts → AreNodes (nodes_in ts)
  forest_nodes tree.bare = tt
  forest_nodes (tree.and tree.token f) = forest_nodes f
  forest_nodes (tree.and {ts = us} (tree.production {p = p} {r = r} {ts = ts} i k) f) =
      nodes_pushed (nodes_in us) (Node p ts) (forest_nodes f) (p, ts, refl, below_of_production g p r i, k)

  -- whole pieces with the texts of as many nodes behind them, and the piece in work
  abbrev pub part : List (List ℕ) → List Tree → List ℕ → List ℕ
  part [] ks t = t
  part (c ∷ cs) [] t = c
  part (c ∷ cs) (k ∷ ks) t = c ++ (reverse (tree_text g k) ++ part cs ks t)

  -- more in the piece in work
  part_more : (cs : List (List ℕ)) (ks : List Tree) (t s : List ℕ) → length cs ≡ length ks → part cs ks (t ++ s) ≡ part cs ks t ++ s
  part_more [] ks t s e = refl
  part_more (c ∷ cs) [] t s e = absurd (omega (arith, e))
  part_more (c ∷ cs) (k ∷ ks) t s e =
      ap (λ l. c ++ (reverse (tree_text g k) ++ l)) (part_more cs ks t s (omega (arith, e)))
      ∙ ap (λ l. c ++ l) (sym (append_assoc (reverse (tree_text g k)) (part cs ks t) s))
      ∙ sym (append_assoc c (reverse (tree_text g k) ++ part cs ks t) s)

  -- a node before the piece in work, which is whole with it
  part_pushed :
      (cs : List (List ℕ)) (ks : List Tree) (t : List ℕ) (k : Tree) → length cs ≡ length ks
      → part (cs ++ t ∷ []) (ks ++ k ∷ []) [] ≡ part cs ks t ++ reverse (tree_text g k)
  part_pushed [] [] t k e = ap (λ l. t ++ l) (append-nil (reverse (tree_text g k)))
  part_pushed [] (j ∷ ks) t k e = absurd (omega (arith, e))
  part_pushed (c ∷ cs) [] t k e = absurd (omega (arith, e))
  part_pushed (c ∷ cs) (j ∷ ks) t k e =
      ap (λ l. c ++ (reverse (tree_text g j) ++ l)) (part_pushed cs ks t k (omega (arith, e)))
      ∙ ap (λ l. c ++ l) (sym (append_assoc (reverse (tree_text g j)) (part cs ks t) (reverse (tree_text g k))))
      ∙ sym (append_assoc c (reverse (tree_text g j) ++ part cs ks t) (reverse (tree_text g k)))

  -- with a space before it, unless there are none, a draft of trees is that of those behind another one
  gap_text :
      {xs : List Symbol} {ts : Forest} (d : Draft) → IsForest g xs ts → length d.pieces ≡ length (nodes_in ts)
      → part d.pieces (nodes_in ts) d.text ≡ codes ")" ++ reverse (forest_text g ts)
      → (length (with_gap (length xs) d).pieces ≡ length (nodes_in ts))
      × (part (with_gap (length xs) d).pieces (nodes_in ts) (with_gap (length xs) d).text ≡ codes ")" ++ reverse (others_text g ts))
  gap_text d tree.bare n e = (n, e)
  gap_text d (tree.and {t = t} {ts = ts} k f) n e = (
    n,
    part_more d.pieces (nodes_in (And t ts)) d.text (codes " ") n
        ∙ three (part d.pieces (nodes_in (And t ts)) d.text) (codes ")") (forest_text g (And t ts)) (codes " ") e,
  )

  -- what is written behind the end of a body is that of its trees
  pub draft_text :
      {xs : List Symbol} {ts : Forest} → IsForest g xs ts
      → (length (draft_of g xs).pieces ≡ length (nodes_in ts))
      × (part (draft_of g xs).pieces (nodes_in ts) (draft_of g xs).text ≡ codes ")" ++ reverse (forest_text g ts))
  draft_text tree.bare = (refl, refl)
  draft_text (tree.and {xs = xs} {ts = ts} (tree.token {t = t}) f) =
      let inner = draft_text f in
      let gap = gap_text (draft_of g xs) f inner.0 inner.1 in
      let d = with_gap (length xs) (draft_of g xs) in (
        gap.0,
        part_more d.pieces (nodes_in ts) d.text (reverse (token_text g t)) gap.0
            ∙ three (part d.pieces (nodes_in ts) d.text) (codes ")") (others_text g ts) (token_text g t) gap.1,
      )
  draft_text (tree.and {xs = xs} {ts = ts} (tree.production {p = p} {ts = us} i k) f) =
      let inner = draft_text f in
      let gap = gap_text (draft_of g xs) f inner.0 inner.1 in
      let d = with_gap (length xs) (draft_of g xs) in (
        length-append d.pieces (d.text ∷ []) ∙ (ap (λ n. n + 1) gap.0 ∙ sym (length-append (nodes_in ts) (Node p us ∷ []))),
        part_pushed d.pieces (nodes_in ts) d.text (Node p us) gap.0
            ∙ three (part d.pieces (nodes_in ts) d.text) (codes ")") (others_text g ts) (tree_text g (Node p us)) gap.1,
      )

  -- pieces with the texts of nodes between them
  abbrev pub filled : List (List ℕ) → List Tree → List ℕ
  filled [] ks = []
  filled (c ∷ cs) [] = c
  filled (c ∷ cs) (k ∷ ks) = c ++ (reverse (tree_text g k) ++ filled cs ks)

  filled_last : (cs : List (List ℕ)) (ks : List Tree) (t : List ℕ) → length cs ≡ length ks → filled (cs ++ t ∷ []) ks ≡ part cs ks t
  filled_last [] [] t e = refl
  filled_last [] (k ∷ ks) t e = absurd (omega (arith, e))
  filled_last (c ∷ cs) [] t e = absurd (omega (arith, e))
  filled_last (c ∷ cs) (k ∷ ks) t e = ap (λ l. c ++ (reverse (tree_text g k) ++ l)) (filled_last cs ks t (omega (arith, e)))

  module _ (p : ℕ) (ts : Forest) (f : IsForest g (body_of g p) ts) where
    -- a node has a piece more than children that are nodes
    pub pieces_count : length (pieces_of g p) ≡ length (nodes_in ts) + 1
    pieces_count =
        let d = draft_of g (body_of g p) in
        length-append d.pieces ((d.text ++ reverse (node_text g p)) ∷ []) ∙ ap (λ n. n + 1) (draft_text f).0

    -- its pieces with these between them are its text
    pub node_filled : filled (pieces_of g p) (nodes_in ts) ≡ reverse (tree_text g (Node p ts))
    node_filled =
        let d = draft_of g (body_of g p) in
        let inner = draft_text f in
        let label = node_text g p in
        let text = forest_text g ts in
        filled_last d.pieces (nodes_in ts) (d.text ++ reverse label) inner.0
        ∙ part_more d.pieces (nodes_in ts) d.text (reverse label) inner.0
        ∙ three (part d.pieces (nodes_in ts) d.text) (codes ")") text label inner.1
        ∙ sym (reverse-append (label ++ text) (codes ")"))
