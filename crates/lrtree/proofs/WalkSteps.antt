-- the steps of a walk over a tree, over plain lists
use Rattle.std.proofs.Common.{◌≡◌, ℕ, suc, ◌<◌, List, [], ◌∷◌, ◌++◌, length, take, refl, sym, ap, ◌∙◌, append_assoc, append-nil, arith, subst, Option, None, Some}
use Rattle.std.specs.Prelude.{slice_get}
use Rattle.std.proofs.lemmas.List.{take_all}
use Rattle.std.proofs.lemmas.Option.{slice_get_within}
use Rattle.lrspec.specs.grammars.Grammar.{Symbol, Production, Grammar, body_of, body_or_none, IsOfRule, IsProductionOf}
use Rattle.lrspec.specs.grammars.Grammar as math
use Rattle.lrspec.specs.grammars.Trees as tree
use Rattle.lrspec.specs.grammars.Trees.{Tree, Forest, Leaf, Node, Bare, And, joined, order, forest_order, IsTree, IsForest}
use Rattle.lrspec.proofs.grammars.TreeFacts.{forest_split, forest_alone, order_pushed}
use Rattle.lrtree.specs.Visits.{Visit, Token, Enter, Leave}
use Rattle.lrtree.specs.Walks.{tree_visits_back, forest_visits_back, Open, Remains}

-- the visits of two forests, those of the second first
visits_joined : (ts us : Forest) → forest_visits_back (joined ts us) ≡ forest_visits_back us ++ forest_visits_back ts
visits_joined Bare us = sym (append-nil (forest_visits_back us))
visits_joined (And t ts) us = ap (λ l. l ++ tree_visits_back t) (visits_joined ts us) ∙ append_assoc (forest_visits_back us) (forest_visits_back ts) (tree_visits_back t)

-- a tree behind a forest comes first
visits_pushed : (ts : Forest) (t : Tree) → forest_visits_back (joined ts (And t Bare)) ≡ tree_visits_back t ++ forest_visits_back ts
visits_pushed ts t = visits_joined ts (And t Bare)

-- a forest of no symbols is bare
no_children : {g : Grammar} {y : List Symbol} {ts : Forest} → IsForest g y ts → y ≡ [] → ts ≡ Bare
no_children tree.bare e = refl
no_children (tree.and t f) e = cc

-- a tree of a token is a leaf
leaf_of : {g : Grammar} {x : Symbol} {u : Tree} {t : ℕ} → IsTree g x u → x ≡ math.Symbol.Token t → u ≡ Leaf t
leaf_of tree.token e = cc
leaf_of (tree.production i f) e = cc

-- a tree of a rule is a node of one of its productions
node_of_rule :
    {g : Grammar} {x : Symbol} {u : Tree} {r : ℕ} → IsTree g x u → x ≡ math.Symbol.Rule r
    → (q : ℕ) × (ts : Forest) × (u ≡ Node q ts) × IsProductionOf g q r × IsForest g (body_of g q) ts
node_of_rule tree.token e = cc
node_of_rule {g} {r = r} (tree.production {p = p} {r = s} {ts = ts} i f) e =
    let same : s ≡ r = cc in (p, ts, refl, subst (IsProductionOf g p) same i, f)

module _ (g : Grammar) where
  -- a production of a rule is there
  below_of_rule : (q r : ℕ) → IsProductionOf g q r → q < length g.productions
  below_of_rule q r i = production_below (slice_get g.productions q) refl i
    where
      production_below : (o : Option Production) → slice_get g.productions q ≡ o → IsOfRule o r → q < length g.productions
      production_below None e i = absurd i
      production_below (Some x) e i = slice_get_within g.productions q x e

  -- the outermost node has all its children: nothing comes any more
  pub walk_ends : (p : ℕ) (rs : List ℕ) (es : List Visit) → Remains g (record { production = p; missing = 0 } ∷ []) rs es → es ≡ []
  walk_ends p rs es c =
      let none = no_children c.are_trees refl in
      sym c.visits ∙ ap (λ ts. forest_visits_back ts ++ c.later) none ∙ c.behind.1

  -- another node has them: its beginning comes
  pub node_begins :
      (p : ℕ) (f : Open) (fs : List Open) (rs : List ℕ) (es : List Visit) → Remains g (record { production = p; missing = 0 } ∷ f ∷ fs) rs es
      → (rest : List Visit) × (es ≡ Enter p ∷ rest) × Remains g (f ∷ fs) rs rest
  node_begins p f fs rs es c =
      let none = no_children c.are_trees refl in
      let (rest, begins, then) = c.behind in
      let left : c.before ≡ rs = sym (append-nil c.before) ∙ (ap (λ ts. c.before ++ forest_order ts) (sym none) ∙ c.productions) in
      (rest, sym c.visits ∙ ap (λ ts. forest_visits_back ts ++ c.later) none ∙ sym begins, rw (← left) then)

  -- the next child is a token
  pub token_comes :
      (p k t : ℕ) (fs : List Open) (rs : List ℕ) (es : List Visit) → Remains g (record { production = p; missing = suc k } ∷ fs) rs es
      → take (suc k) (body_of g p) ≡ take k (body_of g p) ++ math.Symbol.Token t ∷ []
      → (rest : List Visit) × (es ≡ Token t ∷ rest) × Remains g (record { production = p; missing = k } ∷ fs) rs rest
  token_comes p k t fs rs es c cut =
      let (us, zs, first, last, parts) = forest_split (take k (body_of g p)) (math.Symbol.Token t ∷ []) _ c.are_trees cut in
      let (u, is_leaf, one) = forest_alone (math.Symbol.Token t) last refl in
      let leaf : u ≡ Leaf t = leaf_of is_leaf refl in
      let whole : c.children ≡ joined us (And (Leaf t) Bare) = parts ∙ ap (joined us) (one ∙ ap (λ v. And v Bare) leaf) in (
        forest_visits_back us ++ c.later,
        sym c.visits ∙ ap (λ ts. forest_visits_back ts ++ c.later) whole ∙ ap (λ l. l ++ c.later) (visits_pushed us (Leaf t)),
        record {
          there = c.there;
          fits = omega (arith, c.fits);
          children = us;
          are_trees = first;
          before = c.before;
          later = c.later;
          productions = ap (λ l. c.before ++ l) (sym (append-nil (forest_order us)) ∙ sym (order_pushed us (Leaf t)) ∙ sym (ap forest_order whole)) ∙ c.productions;
          visits = refl;
          behind = c.behind;
        },
      )

  -- the next child is a node: its production is the last that is left, and its children are missing
  pub node_ends :
      (p k r : ℕ) (fs : List Open) (rs : List ℕ) (es : List Visit) → Remains g (record { production = p; missing = suc k } ∷ fs) rs es
      → take (suc k) (body_of g p) ≡ take k (body_of g p) ++ math.Symbol.Rule r ∷ []
      → (q : ℕ) × (left : List ℕ) × (rest : List Visit) × (rs ≡ left ++ q ∷ []) × (q < length g.productions) × (es ≡ Leave q ∷ rest)
      × Remains g (record { production = q; missing = length (body_of g q) } ∷ record { production = p; missing = k } ∷ fs) left rest
  node_ends p k r fs rs es c cut =
      let (us, zs, first, last, parts) = forest_split (take k (body_of g p)) (math.Symbol.Rule r ∷ []) _ c.are_trees cut in
      let (u, is_tree, one) = forest_alone (math.Symbol.Rule r) last refl in
      let (q, ws, node, of_rule, are_trees) = node_of_rule is_tree refl in
      let whole : c.children ≡ joined us (And (Node q ws) Bare) = parts ∙ ap (joined us) (one ∙ ap (λ v. And v Bare) node) in
      let front : List ℕ = c.before ++ forest_order us in
      let rest : List Visit = forest_visits_back us ++ c.later in
      let reductions : rs ≡ (front ++ forest_order ws) ++ q ∷ [] =
      sym c.productions ∙ ap (λ l. c.before ++ l) (ap forest_order whole ∙ order_pushed us (Node q ws))
      ∙ sym (append_assoc c.before (forest_order us) (forest_order ws ++ q ∷ [])) ∙ sym (append_assoc front (forest_order ws) (q ∷ [])) in
      let visits : es ≡ Leave q ∷ (forest_visits_back ws ++ Enter q ∷ rest) =
      sym c.visits ∙ ap (λ ts. forest_visits_back ts ++ c.later) whole ∙ ap (λ l. l ++ c.later) (visits_pushed us (Node q ws))
      ∙ ap (λ l. Leave q ∷ l) (append_assoc (forest_visits_back ws ++ Enter q ∷ []) (forest_visits_back us) c.later ∙ append_assoc (forest_visits_back ws) (Enter q ∷ []) rest) in (
        q,
        front ++ forest_order ws,
        forest_visits_back ws ++ Enter q ∷ rest,
        reductions,
        below_of_rule q r of_rule,
        visits,
        record {
          there = below_of_rule q r of_rule;
          fits = omega arith;
          children = ws;
          are_trees = rw (take_all (length (body_of g q)) (body_of g q) (omega arith)) are_trees;
          before = front;
          later = Enter q ∷ rest;
          productions = refl;
          visits = refl;
          behind = (
            rest,
            refl,
            record {
              there = c.there;
              fits = omega (arith, c.fits);
              children = us;
              are_trees = first;
              before = c.before;
              later = c.later;
              productions = refl;
              visits = refl;
              behind = c.behind;
            },
          );
        },
      )

-- before the first step the start production is open, whose one child is the root
pub walk_starts :
    (g : Grammar) (p r : ℕ) (t : Tree) (rs : List ℕ) → p < length g.productions → body_of g p ≡ math.Symbol.Rule r ∷ [] → IsTree g (math.Symbol.Rule r) t
    → order t ≡ rs → Remains g (record { production = p; missing = 1 } ∷ []) rs (tree_visits_back t)
walk_starts g p r t rs there body is_tree productions = record {
  there = there;
  fits = omega (arith, ap length body);
  children = And t Bare;
  are_trees = rw (ap (take 1) body) (tree.and is_tree tree.bare);
  before = [];
  later = [];
  productions = append-nil (order t) ∙ productions;
  visits = append-nil (tree_visits_back t);
  behind = (refl, refl);
}

-- a production with a body is there
pub there_of : (g : Grammar) (p r : ℕ) → body_of g p ≡ math.Symbol.Rule r ∷ [] → p < length g.productions
there_of g p r e = has_body (slice_get g.productions p) refl e
  where
    has_body : (o : Option Production) → slice_get g.productions p ≡ o → body_or_none o ≡ math.Symbol.Rule r ∷ [] → p < length g.productions
    has_body None e k = absurd (cc)
    has_body (Some x) e k = slice_get_within g.productions p x e
