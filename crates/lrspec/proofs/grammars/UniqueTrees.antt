-- a tree for a symbol is known by its productions in order
use Rattle.std.proofs.Common.{◌≡◌, ℕ, List, [], ◌∷◌, ◌++◌, refl, sym, ap, ◌∙◌, append_assoc, append-nil}
use Rattle.std.proofs.lemmas.List.{same_from_push}
use Rattle.lrspec.specs.grammars.Grammar.{Symbol, Token, Grammar, body_of}
use Rattle.lrspec.specs.grammars.Trees.{Tree, Forest, Leaf, Node, And, order, forest_order, IsTree, IsForest, token, production, bare, and}

-- the same lists with other parentheses
regroup : (v w x y a b : List ℕ) → v ++ (x ++ a) ≡ w ++ (y ++ b) → (v ++ x) ++ a ≡ (w ++ y) ++ b
regroup v w x y a b e = append_assoc v x a ∙ (e ∙ sym (append_assoc w y b))

-- two leaves of one symbol are the same
leaf_same : (s t : ℕ) (v w : List ℕ) → Token s ≡ Token t → v ++ [] ≡ w ++ [] → (Leaf s ≡ Leaf t) × (v ≡ w)
leaf_same s t v w e k = (cc, sym (append-nil v) ∙ (k ∙ append-nil w))

-- nodes with the same production and children are the same
node_same : (p q : ℕ) (ts us : Forest) (v w : List ℕ) → p ≡ q → (ts ≡ us) × (v ≡ w) → (Node p ts ≡ Node q us) × (v ≡ w)
node_same p q ts us v w e (f, k) = (cc, k)

-- and so are forests of the same trees
and_same : (t u : Tree) (ts us : Forest) (v w : List ℕ) → ts ≡ us → (t ≡ u) × (v ≡ w) → (And t ts ≡ And u us) × (v ≡ w)
and_same t u ts us v w f (e, k) = (cc, k)

mutual
  -- a tree of a symbol is known by its productions in order, also where they stand behind others
  pub tree_same :
      {g : Grammar} {x y : Symbol} {t u : Tree} → IsTree g x t → IsTree g y u → x ≡ y → (v w : List ℕ) → v ++ order t ≡ w ++ order u
      → (t ≡ u) × (v ≡ w)
  tree_same (token {t = s}) (token {t = t}) e v w k = leaf_same s t v w e k
  tree_same token (production h f) e v w k = cc
  tree_same (production h f) token e v w k = cc
  tree_same {g} (production {p = p} {ts = ts} h f) (production {p = q} {ts = us} i l) e v w k =
      let last = same_from_push (v ++ forest_order ts) (w ++ forest_order us) p q
      (regroup v w (forest_order ts) (forest_order us) (p ∷ []) (q ∷ []) k) in
      node_same p q ts us v w last.1 (forest_same f l (ap (λ n. body_of g n) last.1) v w last.0)

  pub forest_same :
      {g : Grammar} {x y : List Symbol} {ts us : Forest} → IsForest g x ts → IsForest g y us → x ≡ y → (v w : List ℕ)
      → v ++ forest_order ts ≡ w ++ forest_order us → (ts ≡ us) × (v ≡ w)
  forest_same bare bare e v w k = (refl, sym (append-nil v) ∙ (k ∙ append-nil w))
  forest_same bare (and t f) e v w k = cc
  forest_same (and t f) bare e v w k = cc
  forest_same (and {t = t} {ts = ts} i f) (and {t = u} {ts = us} j l) e v w k =
      let behind = forest_same f l (cc) (v ++ order t) (w ++ order u) (regroup v w (order t) (order u) (forest_order ts) (forest_order us) k) in
      and_same t u ts us v w behind.0 (tree_same i j (cc) v w behind.1)
