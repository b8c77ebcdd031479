-- the text of a tree tells the tree
use Rattle.std.proofs.Common.{◌≡◌, ℕ, ◌<◌, ◌≤◌, ◌^◌, Bool, List, [], ◌∷◌, ◌++◌, length, get_or, refl, sym, ap, ◌∙◌, append_assoc, ◌⊎◌, inl, inr, ⊎_elim, arith}
use Rattle.std.specs.Prelude.{Contains, codes, slice_get, ◌==◌}
use Rattle.std.specs.Fmt.{decimal}
use Rattle.std.specs.List.{position_or_len, range_with_len}
use Rattle.std.specs.Str.Parse.{AllDigits, digits_value}
use Rattle.std.specs.Int.{IsInRange}
use Rattle.std.proofs.lemmas.Bool.{cases_lt, eqb-true, eq-eqb, both_ways}
use Rattle.std.proofs.lemmas.Fmt.{decimal_is_IsNumeral_wide}
use Rattle.std.proofs.lemmas.List.{append_cancel_left, append_cancel_right, same_from_push, get_or_default}
use Rattle.std.proofs.lemmas.List.Sums.{passes_at_first, fails_before_first, length-filter, count_by-le-length}
use Rattle.std.proofs.lemmas.List.FromFn.{length-range_with_len}
use Rattle.std.proofs.lemmas.Str.Parse.{digit_from_value}
use Rattle.lrspec.specs.grammars.Grammar.{Symbol, Rule, Token, Grammar, IsProductionOf, is_of_rule, body_of, rule_of, productions_of}
use Rattle.lrspec.specs.grammars.Trees.{Tree, Forest, Leaf, Node, And, IsTree, IsForest, token, production, bare, and, IsSentence}
use Rattle.lrspec.specs.texts.Parts.{HasDouble}
use Rattle.lrspec.specs.texts.MachineLines.{place_in_rule, production_label}
use Rattle.lrspec.specs.texts.PrintedTexts.{rule_name, token_name, token_text}
use Rattle.lrspec.specs.texts.TreeTexts.{tree_text, forest_text, others_text, HasShortPlaces, IsNamed, TellSymbols}
use Rattle.lrspec.proofs.grammars.BodyFacts.{below_of_production, test_from_of_rule, rule_of_production}
use Rattle.lrspec.proofs.grammars.ListMembers.{Among, among_append, among_below, contains_from_among, among_filter}

-- ---- cutting texts

-- a number behind others is among them all
among_behind : (b : ℕ) (v x : List ℕ) → Among b (v ++ b ∷ x)
among_behind b [] x = inl refl
among_behind b (c ∷ v) x = inr (among_behind b v x)

-- two equal lists are cut alike at a number that is in neither front
cut_first : (b : ℕ) (v w x y : List ℕ) → (Among b v → ⊥) → (Among b w → ⊥) → v ++ b ∷ x ≡ w ++ b ∷ y → (v ≡ w) × (x ≡ y)
cut_first b [] [] x y m n e = (refl, cc)
cut_first b [] (c ∷ w) x y m n e = let same : b ≡ c = cc in absurd (n (inl same))
cut_first b (c ∷ v) [] x y m n e = let same : b ≡ c = cc in absurd (m (inl same))
cut_first b (c ∷ v) (d ∷ w) x y m n e = let (f, k) = cut_first b v w x y (λ h. m (inr h)) (λ h. n (inr h)) (cc) in (cc, k)

-- and at a number that is in neither rest
cut_last : (b : ℕ) (v w x y : List ℕ) → (Among b x → ⊥) → (Among b y → ⊥) → v ++ b ∷ x ≡ w ++ b ∷ y → (v ≡ w) × (x ≡ y)
cut_last b [] [] x y m n e = (refl, cc)
cut_last b [] (c ∷ w) x y m n e = let same : w ++ b ∷ y ≡ x = cc in absurd (m (rw (← same) (among_behind b w y)))
cut_last b (c ∷ v) [] x y m n e = let same : v ++ b ∷ x ≡ y = cc in absurd (n (rw (← same) (among_behind b v x)))
cut_last b (c ∷ v) (d ∷ w) x y m n e = let (f, k) = cut_last b v w x y m n (cc) in (cc, k)

-- ---- places of productions

-- digits are from `0` to `9`
digit_among : (b : ℕ) (ds : List ℕ) → AllDigits 10 ds → Among b ds → IsInRange 48 57 b
digit_among b [] d h = absurd h
digit_among b (c ∷ cs) d (inl e) = rw e (digit_from_value c d.0)
digit_among b (c ∷ cs) d (inr h) = digit_among b cs d.1 h

-- a number of at most 64 digits writes only digits
digit_of_decimal : (b n : ℕ) → n < 10 ^ 64 → Among b (decimal n) → IsInRange 48 57 b
digit_of_decimal b n l h = digit_among b (decimal n) (decimal_is_IsNumeral_wide n l).0.1 h

-- and is told by them
decimal_tells : (m n : ℕ) → m < 10 ^ 64 → n < 10 ^ 64 → decimal m ≡ decimal n → m ≡ n
decimal_tells m n k l e = sym (decimal_is_IsNumeral_wide m k).1 ∙ (ap (λ ds. digits_value 10 ds) e ∙ (decimal_is_IsNumeral_wide n l).1)

-- the place of an element of a list is within it
place_within : (p : ℕ) (ps : List ℕ) → Contains ps p → position_or_len (λ q. q == p) ps < length ps
place_within p ps (k, l, e) =
    ⊎_elim
    (λ (h : position_or_len (λ q. q == p) ps < length ps). h)
    (λ (h : length ps ≤ position_or_len (λ q. q == p) ps). let fails = fails_before_first (λ q. q == p) ps k p (omega arith) in absurd (both_ways _ fails (eq-eqb (get_or ps k p) p e)))
    (cases_lt (position_or_len (λ q. q == p) ps) (length ps))

-- elements of a list with the same place are the same
place_tells : (p q : ℕ) (ps : List ℕ) → Contains ps p → Contains ps q → position_or_len (λ n. n == p) ps ≡ position_or_len (λ n. n == q) ps → p ≡ q
place_tells p q ps h k e =
    sym (eqb-true _ p (passes_at_first (λ n. n == p) ps 0 (place_within p ps h)))
    ∙ (ap (λ n. get_or ps n 0) e ∙ eqb-true _ q (passes_at_first (λ n. n == q) ps 0 (place_within q ps k)))

-- a production is among those of its rule
among_productions : (g : Grammar) (p r : ℕ) → IsProductionOf g p r → Contains (productions_of g r) p
among_productions g p r h =
    contains_from_among p (productions_of g r)
    (among_filter (λ q. is_of_rule (slice_get g.productions q) r) p (range_with_len 0 (length g.productions)) (among_below (length g.productions) p (below_of_production g p r h)) (test_from_of_rule g p r h))

-- a rule has no more productions than there are
few_productions : (g : Grammar) (r : ℕ) → length (productions_of g r) ≤ length g.productions
few_productions g r =
    let f : ℕ → Bool = λ p. is_of_rule (slice_get g.productions p) r in
    let all = range_with_len 0 (length g.productions) in
    omega (arith, length-filter f all, count_by-le-length f all, length-range_with_len 0 (length g.productions))

-- the places of a list in which no name stands twice are told by their names
name_tells : (names : List (List ℕ)) → (HasDouble names → ⊥) → (i j : ℕ) → i < length names → j < length names → get_or names i [] ≡ get_or names j [] → i ≡ j
name_tells names apart i j l m e =
    ⊎_elim (λ (h : i < j). absurd (apart (i, j, h, m, e)))
    (λ (h : j ≤ i). ⊎_elim (λ (k : j < i). absurd (apart (j, i, k, l, sym e))) (λ (k : i ≤ j). omega arith) (cases_lt j i))
    (cases_lt i j)

module _ (g : Grammar) (short : HasShortPlaces g) where
  -- the place of a production has at most 64 digits
  place_below : (p r : ℕ) → IsProductionOf g p r → place_in_rule g p < 10 ^ 64
  place_below p r h =
      let e = rule_of_production g p r h in
      let l = place_within p (productions_of g r) (among_productions g p r h) in
      rw e (omega (arith, l, few_productions g r))

  -- productions of one rule in the same place are the same
  production_tells : (p q r : ℕ) → IsProductionOf g p r → IsProductionOf g q r → place_in_rule g p ≡ place_in_rule g q → p ≡ q
  production_tells p q r h k e =
      place_tells p q (productions_of g r) (among_productions g p r h) (among_productions g q r k)
      (ap (λ s. position_or_len (λ n. n == p) (productions_of g s)) (sym (rule_of_production g p r h))
      ∙ (e ∙ ap (λ s. position_or_len (λ n. n == q) (productions_of g s)) (rule_of_production g q r k)))

  -- a byte below `0` is none of the digits of a place, as `(` and the dot are none
  not_in_place : (b p r : ℕ) → b < 48 → IsProductionOf g p r → Among b (decimal (place_in_rule g p)) → ⊥
  not_in_place b p r l h i = let d = digit_of_decimal b (place_in_rule g p) (place_below p r h) i in absurd (omega (arith, d))

  -- ---- trees for one symbol

  -- the text of a node in other parentheses
  node_text : (p : ℕ) (ts : Forest) (v : List ℕ) → tree_text g (Node p ts) ++ v ≡ rule_name g (rule_of g p) ++ 46 ∷ (decimal (place_in_rule g p) ++ 40 ∷ (forest_text g ts ++ 41 ∷ v))
  node_text p ts v = simp append_assoc refl

  -- nodes of one rule with the same text have the same production, and children with the same text
  nodes_tell :
      (p q r : ℕ) (ts us : Forest) (v w : List ℕ) → IsProductionOf g p r → IsProductionOf g q r → tree_text g (Node p ts) ++ v ≡ tree_text g (Node q us) ++ w
      → (p ≡ q) × (forest_text g ts ++ 41 ∷ v ≡ forest_text g us ++ 41 ∷ w)
  nodes_tell p q r ts us v w h k e =
      let m = rule_of_production g p r h ∙ sym (rule_of_production g q r k) in
      let whole = sym (node_text p ts v) ∙ (e ∙ node_text q us w) in
      let behind = append_cancel_left (rule_name g (rule_of g p)) _ _ (rw (← m) at whole) in
      let cut = cut_first 40 (decimal (place_in_rule g p)) (decimal (place_in_rule g q)) (forest_text g ts ++ 41 ∷ v) (forest_text g us ++ 41 ∷ w)
      (not_in_place 40 p r (omega arith) h) (not_in_place 40 q r (omega arith) k) (cc) in
      (production_tells p q r h k (decimal_tells _ _ (place_below p r h) (place_below q r k) cut.0), cut.1)

  -- leaves of one symbol are the same
  leaves_tell : (s t : ℕ) (v w : List ℕ) → Token s ≡ Token t → tree_text g (Leaf s) ++ v ≡ tree_text g (Leaf t) ++ w → (Leaf s ≡ Leaf t) × (v ≡ w)
  leaves_tell s t v w e k =
      let same : s ≡ t = cc in
      (cc, append_cancel_left (token_text g s) v w (rw (← same) at k))

  -- nodes with the same production and children are the same
  same_node : (p q : ℕ) (ts us : Forest) (v w : List ℕ) → p ≡ q → (ts ≡ us) × (41 ∷ v ≡ 41 ∷ w) → (Node p ts ≡ Node q us) × (v ≡ w)
  same_node p q ts us v w e (f, k) = (cc, cc)

  -- and so are trees in a row whose first tree and whose others are told by their texts
  rows_tell :
      (t u : Tree) (ts us : Forest) (v w : List ℕ)
      → ((x y : List ℕ) → tree_text g t ++ x ≡ tree_text g u ++ y → (t ≡ u) × (x ≡ y))
      → (others_text g ts ++ v ≡ others_text g us ++ w → (ts ≡ us) × (v ≡ w))
      → forest_text g (And t ts) ++ v ≡ forest_text g (And u us) ++ w → (And t ts ≡ And u us) × (v ≡ w)
  rows_tell t u ts us v w first others e =
      let (f, k) = first (others_text g ts ++ v) (others_text g us ++ w)
      (sym (append_assoc (tree_text g t) (others_text g ts) v) ∙ (e ∙ append_assoc (tree_text g u) (others_text g us) w)) in
      let (l, m) = others k in
      (cc, m)

  mutual
    -- the text of a tree for a symbol tells the tree, also where more text stands behind it
    pub tree_told :
        {x y : Symbol} {t u : Tree} → IsTree g x t → IsTree g y u → x ≡ y → (v w : List ℕ) → tree_text g t ++ v ≡ tree_text g u ++ w
        → (t ≡ u) × (v ≡ w)
    tree_told (token {t = s}) (token {t = t}) e v w k = leaves_tell s t v w e k
    tree_told token (production h f) e v w k = cc
    tree_told (production h f) token e v w k = cc
    tree_told (production {p = p} {r = r} {ts = ts} h f) (production {p = q} {r = s} {ts = us} i l) e v w k =
        let same : s ≡ r = cc in
        let (m, n) = nodes_tell p q r ts us v w h (rw same at i) k in
        same_node p q ts us v w m (forest_told f l (ap (λ n. body_of g n) m) (41 ∷ v) (41 ∷ w) n)

    -- the text of trees for symbols tells the trees
    forest_told :
        {x y : List Symbol} {ts us : Forest} → IsForest g x ts → IsForest g y us → x ≡ y → (v w : List ℕ)
        → forest_text g ts ++ v ≡ forest_text g us ++ w → (ts ≡ us) × (v ≡ w)
    forest_told bare bare e v w k = (refl, k)
    forest_told bare (and j l) e v w k = cc
    forest_told (and i f) bare e v w k = cc
    forest_told (and {t = t} {ts = ts} i f) (and {t = u} {ts = us} j l) e v w k =
        rows_tell t u ts us v w (tree_told i j (cc)) (others_told f l (cc) v w) k

    -- and so does that of trees behind another
    others_told :
        {x y : List Symbol} {ts us : Forest} → IsForest g x ts → IsForest g y us → x ≡ y → (v w : List ℕ)
        → others_text g ts ++ v ≡ others_text g us ++ w → (ts ≡ us) × (v ≡ w)
    others_told bare bare e v w k = (refl, k)
    others_told bare (and j l) e v w k = cc
    others_told (and i f) bare e v w k = cc
    others_told (and {t = t} {ts = ts} i f) (and {t = u} {ts = us} j l) e v w k =
        rows_tell t u ts us v w (tree_told i j (cc)) (others_told f l (cc) v w) (cc)

  -- so the texts of two trees for one symbol are the same only where the trees are
  pub text_tells_tree_of_symbol : {x : Symbol} {t u : Tree} → IsTree g x t → IsTree g x u → tree_text g t ≡ tree_text g u → t ≡ u
  text_tells_tree_of_symbol {t = t} {u = u} h k e = (tree_told h k refl [] [] (ap (λ text. text ++ []) e)).0

  -- and the text of a tree of a sentence tells the tree
  pub text_tells_tree_of_sentence : {v w : List ℕ} (a : IsSentence g v) (b : IsSentence g w) → tree_text g a.tree ≡ tree_text g b.tree → a.tree ≡ b.tree
  text_tells_tree_of_sentence a b e =
      let same : Rule a.rule ∷ [] ≡ Rule b.rule ∷ [] = sym a.start ∙ b.start in
      (tree_told a.is_tree b.is_tree (cc) [] [] (ap (λ text. text ++ []) e)).0

  -- ---- trees for any two symbols

  -- a label as it is cut at its dot
  label_text : (p : ℕ) → production_label g p ≡ rule_name g (rule_of g p) ++ 46 ∷ decimal (place_in_rule g p)
  label_text p = simp append_assoc refl

  -- a node as it is cut behind its label
  bracket_text : (p : ℕ) (ts : Forest) → tree_text g (Node p ts) ≡ production_label g p ++ 40 ∷ (forest_text g ts ++ 41 ∷ [])
  bracket_text p ts = simp append_assoc refl

  module _ (names : TellSymbols g) where
    -- the label of a production holds no `(`
    not_in_label : (p r : ℕ) → r < length g.rule_names → IsProductionOf g p r → Among 40 (production_label g p) → ⊥
    not_in_label p r l h i = by (among_append 40 (rule_name g (rule_of g p)) (46 ∷ decimal (place_in_rule g p)) (rw (label_text p) at i))
      where
        by : Among 40 (rule_name g (rule_of g p)) ⊎ Among 40 (46 ∷ decimal (place_in_rule g p)) → ⊥
        by (inl j) =
            let m : Among 40 (rule_name g r) = rw (rule_of_production g p r h) at j in
            names.brackets r [] l (contains_from_among 40 (rule_name g r) m)
        by (inr (inl e)) = absurd (omega (arith, e))
        by (inr (inr j)) = not_in_place 40 p r (omega arith) h j

    -- nodes with the same text are of one rule
    rules_told :
        (p q r s : ℕ) (ts us : Forest) → r < length g.rule_names → s < length g.rule_names → IsProductionOf g p r → IsProductionOf g q s
        → tree_text g (Node p ts) ≡ tree_text g (Node q us) → r ≡ s
    rules_told p q r s ts us l m h k e =
        let (labels, _) = cut_first 40 (production_label g p) (production_label g q) (forest_text g ts ++ 41 ∷ []) (forest_text g us ++ 41 ∷ [])
        (not_in_label p r l h) (not_in_label q s m k) (sym (bracket_text p ts) ∙ (e ∙ bracket_text q us)) in
        let (fronts, _) = cut_last 46 (rule_name g (rule_of g p)) (rule_name g (rule_of g q)) (decimal (place_in_rule g p)) (decimal (place_in_rule g q))
        (not_in_place 46 p r (omega arith) h) (not_in_place 46 q s (omega arith) k) (sym (label_text p) ∙ (labels ∙ label_text q)) in
        let same : rule_name g r ≡ rule_name g s = rw (rule_of_production g p r h, rule_of_production g q s k) at fronts in
        name_tells g.rule_names names.rules r s l m same

    -- leaves with the same text are of one token
    tokens_told : (s t : ℕ) → s < length g.token_names → t < length g.token_names → tree_text g (Leaf s) ≡ tree_text g (Leaf t) → s ≡ t
    tokens_told s t l m e =
        let fronts : token_name g s ≡ token_name g t = append_cancel_right (token_name g s) (token_name g t) (39 ∷ []) (cc) in
        name_tells g.token_names names.tokens s t l m
        (get_or_default g.token_names s [] (codes "$") l ∙ (fronts ∙ get_or_default g.token_names t (codes "$") [] m))

    -- a leaf and a node end differently
    leaf_or_node : (t p : ℕ) (ts : Forest) → tree_text g (Leaf t) ≡ tree_text g (Node p ts) → ⊥
    leaf_or_node t p ts e =
        let node : (production_label g p ++ 40 ∷ forest_text g ts) ++ 41 ∷ [] ≡ tree_text g (Node p ts) = simp append_assoc refl in
        let ends = same_from_push (39 ∷ token_name g t) (production_label g p ++ 40 ∷ forest_text g ts) 39 41 (e ∙ sym node) in
        absurd (omega (arith, ends.1))

    -- the texts of trees for any two symbols are the same only where the trees are
    pub text_tells_tree : {x y : Symbol} {t u : Tree} → IsNamed g x → IsNamed g y → IsTree g x t → IsTree g y u → tree_text g t ≡ tree_text g u → t ≡ u
    text_tells_tree l m (token {t = s}) (token {t = t}) e = ap Leaf (tokens_told s t l m e)
    text_tells_tree l m (token {t = t}) (production {p = p} {ts = ts} h f) e = absurd (leaf_or_node t p ts e)
    text_tells_tree l m (production {p = p} {ts = ts} h f) (token {t = t}) e = absurd (leaf_or_node t p ts (sym e))
    text_tells_tree l m (production {p = p} {r = r} {ts = ts} h f) (production {p = q} {r = s} {ts = us} i k) e =
        (tree_told (production h f) (production i k) (ap Rule (rules_told p q r s ts us l m h i e)) [] [] (ap (λ text. text ++ []) e)).0
