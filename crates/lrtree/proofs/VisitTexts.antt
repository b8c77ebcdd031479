-- the texts of the visits of a tree
use Rattle.std.proofs.Common.{◌≡◌, ℕ, ◌<◌, Bool, true, false, List, [], ◌∷◌, ◌++◌, length, codes, ap, ◌∙◌, sym, refl, append_assoc, append-nil}
use Rattle.std.specs.List.{All}
use Rattle.std.proofs.lemmas.List.Elements.{All-nil, All-cons, All-head, All-tail, All-append}
use Rattle.lrspec.specs.grammars.Grammar.{Grammar, end_token}
use Rattle.lrspec.specs.grammars.Trees.{Tree, Forest, Leaf, Node, Bare, And, leaves, forest_leaves, order, forest_order}
use Rattle.lrspec.specs.texts.MachineLines.{production_label}
use Rattle.lrspec.specs.texts.PrintedTexts.{token_text}
use Rattle.lrspec.specs.texts.TreeTexts.{tree_text, forest_text, others_text, IsPrintable}
use Rattle.lrtree.specs.Visits.{Visit, Token, Enter, Leave, tree_visits, forest_visits, IsVisitOf, gap_unless, visit_text, is_enter, visits_text}

-- what holds of each element of two lists holds of those of the first
all_before : {X : Type 0} (P : X → Type 0) (xs ys : List X) → All P (xs ++ ys) → All P xs
all_before P [] ys k = All-nil P
all_before P (x ∷ xs) ys k = All-cons P x xs (All-head P x (xs ++ ys) k) (all_before P xs ys (All-tail P x (xs ++ ys) k))

-- and of those of the second
all_behind : {X : Type 0} (P : X → Type 0) (xs ys : List X) → All P (xs ++ ys) → All P ys
all_behind P [] ys k = k
all_behind P (x ∷ xs) ys k = all_behind P xs ys (All-tail P x (xs ++ ys) k)

-- the parts of the text of a node
node_text :
    (label children later : List ℕ)
    → (label ++ codes "(" ++ children ++ codes ")") ++ later ≡ label ++ (codes "(" ++ (children ++ (codes ")" ++ later)))
node_text label children later =
    append_assoc (label ++ codes "(" ++ children) (codes ")") later ∙ append_assoc (label ++ codes "(") children (codes ")" ++ later)
    ∙ append_assoc label (codes "(") (children ++ (codes ")" ++ later))

module _ (g : Grammar) where
  mutual
    -- the text of a tree stands behind a space, unless it is the first of its node, and before that of the other visits
    pub tree_visits_text :
        (first : Bool) (t : Tree) (vs : List Visit)
        → visits_text g first (tree_visits t ++ vs) ≡ gap_unless first ++ (tree_text g t ++ visits_text g false vs)
    tree_visits_text first (Leaf t) vs = append_assoc (gap_unless first) (token_text g t) (visits_text g false vs)
    tree_visits_text first (Node p ts) vs =
        let label = production_label g p in
        let later = visits_text g false vs in
        ap (λ l. (gap_unless first ++ label ++ codes "(") ++ visits_text g true l) (append_assoc (forest_visits ts) (Leave p ∷ []) vs)
        ∙ ap (λ l. (gap_unless first ++ label ++ codes "(") ++ l) (first_visits_text ts p vs)
        ∙ append_assoc (gap_unless first ++ label) (codes "(") (forest_text g ts ++ (codes ")" ++ later))
        ∙ append_assoc (gap_unless first) label (codes "(" ++ (forest_text g ts ++ (codes ")" ++ later)))
        ∙ ap (λ l. gap_unless first ++ l) (sym (node_text label (forest_text g ts) later))

    -- that of the children of a node stands before its end
    first_visits_text :
        (ts : Forest) (p : ℕ) (vs : List Visit)
        → visits_text g true (forest_visits ts ++ Leave p ∷ vs) ≡ forest_text g ts ++ (codes ")" ++ visits_text g false vs)
    first_visits_text Bare p vs = refl
    first_visits_text (And t ts) p vs =
        ap (visits_text g true) (append_assoc (tree_visits t) (forest_visits ts) (Leave p ∷ vs))
        ∙ tree_visits_text true t (forest_visits ts ++ Leave p ∷ vs)
        ∙ ap (λ l. tree_text g t ++ l) (others_visits_text ts (Leave p ∷ vs))
        ∙ sym (append_assoc (tree_text g t) (others_text g ts) (codes ")" ++ visits_text g false vs))

    -- and that of the others has a space before each
    others_visits_text : (ts : Forest) (vs : List Visit) → visits_text g false (forest_visits ts ++ vs) ≡ others_text g ts ++ visits_text g false vs
    others_visits_text Bare vs = refl
    others_visits_text (And t ts) vs =
        ap (visits_text g false) (append_assoc (tree_visits t) (forest_visits ts) vs)
        ∙ tree_visits_text false t (forest_visits ts ++ vs)
        ∙ ap (λ l. codes " " ++ (tree_text g t ++ l)) (others_visits_text ts vs)
        ∙ ap (λ l. codes " " ++ l) (sym (append_assoc (tree_text g t) (others_text g ts) (visits_text g false vs)))

  -- the text of the visits of a tree is that of the tree
  pub text_of_visits : (t : Tree) → visits_text g true (tree_visits t) ≡ tree_text g t
  text_of_visits t =
      ap (visits_text g true) (sym (append-nil (tree_visits t))) ∙ tree_visits_text true t [] ∙ append-nil (tree_text g t)

  -- a visit's text is behind the text before it, and before that of the other visits
  pub text_before :
      (first next : Bool) (v : Visit) (rest vs : List Visit) (old new whole : List ℕ) → vs ≡ v ∷ rest
      → new ≡ old ++ visit_text g first v → next ≡ is_enter v → old ++ visits_text g first vs ≡ whole
      → new ++ visits_text g next rest ≡ whole
  text_before first next v rest vs old new whole e text enters all =
      ap (λ l. l ++ visits_text g next rest) text ∙ ap (λ b. (old ++ visit_text g first v) ++ visits_text g b rest) enters
      ∙ append_assoc old (visit_text g first v) (visits_text g (is_enter v) rest)
      ∙ ap (λ l. old ++ visits_text g first l) (sym e) ∙ all

  mutual
    -- where the leaves are named tokens and the productions are there, the visits are of the grammar
    visits_of_tree :
        (t : Tree) → All (λ t. t < end_token g) (leaves t) → All (λ p. p < length g.productions) (order t)
        → All (IsVisitOf g) (tree_visits t)
    visits_of_tree (Leaf t) tokens productions = All-cons (IsVisitOf g) (Token t) [] (All-head (λ t. t < end_token g) t [] tokens) (All-nil (IsVisitOf g))
    visits_of_tree (Node p ts) tokens productions =
        let there = λ (p : ℕ). p < length g.productions in
        let own : p < length g.productions = All-head there p [] (all_behind there (forest_order ts) (p ∷ []) productions) in
        let children = visits_of_forest ts tokens (all_before there (forest_order ts) (p ∷ []) productions) in
        All-cons (IsVisitOf g) (Enter p) (forest_visits ts ++ Leave p ∷ []) own
        (All-append (IsVisitOf g) (forest_visits ts) (Leave p ∷ []) children (All-cons (IsVisitOf g) (Leave p) [] own (All-nil (IsVisitOf g))))

    -- and so are those of trees in a row
    visits_of_forest :
        (ts : Forest) → All (λ t. t < end_token g) (forest_leaves ts) → All (λ p. p < length g.productions) (forest_order ts)
        → All (IsVisitOf g) (forest_visits ts)
    visits_of_forest Bare tokens productions = All-nil (IsVisitOf g)
    visits_of_forest (And t ts) tokens productions =
        let named = λ (t : ℕ). t < end_token g in
        let there = λ (p : ℕ). p < length g.productions in
        All-append (IsVisitOf g) (tree_visits t) (forest_visits ts)
        (visits_of_tree t (all_before named (leaves t) (forest_leaves ts) tokens) (all_before there (order t) (forest_order ts) productions))
        (visits_of_forest ts (all_behind named (leaves t) (forest_leaves ts) tokens) (all_behind there (order t) (forest_order ts) productions))

  -- the visits of a tree that can be printed are of the grammar
  pub printable_visits : (t : Tree) → IsPrintable g t → All (IsVisitOf g) (tree_visits t)
  printable_visits t k = visits_of_tree t k.tokens k.productions
