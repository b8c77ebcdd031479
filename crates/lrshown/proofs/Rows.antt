-- trees in a row: the last ones of them, and their visits
use Rattle.std.proofs.Common.{◌≡◌, ℕ, zero, suc, ◌+◌, ◌<◌, List, [], ◌∷◌, ◌++◌, length, map, reverse, refl, sym, ap, subst, ◌∙◌, arith, append_assoc, length-append}
use Rattle.std.proofs.Common.{◌-◌, get_or, drop, unwrap_or}
use Rattle.std.proofs.lemmas.List.{append-nil, reverse-append, same_from_push}
use Rattle.std.proofs.lemmas.Option.{unwrap_or-slice_get}
use Rattle.std.proofs.Math.ListN.{set}
use Rattle.std.proofs.Math.Seq.{set-append_seam, get_or-append_seam, drop-cons}
use Rattle.std.proofs.Common.{get_or-drop, add-zero, add-one}
use Rattle.std.proofs.lemmas.List.{drop-drop}
use Rattle.std.specs.List.{slice_get}
use Rattle.lrgrammar.specs.declared.grammar.PartSymbol.{PartSymbol}
use Rattle.lrshown.specs.declared.trees.Node.{Node}
use Rattle.lrshown.specs.declared.trees.Node.TheVariants as code
use Rattle.lrshown.specs.declared.trees.Visit.{Visit}
use Rattle.lrshown.specs.declared.trees.Visit.TheVariants as visit
use Rattle.lrshown.specs.declared.trees.Tree as stored
use Rattle.lryacc.specs.declared.numbering.FileGrammar.{FileGrammar}
use Rattle.lrshown.specs.declared.steps.Step.{Step}
use Rattle.std.proofs.Common.{Bool, true, false, Some}
use Rattle.lrshown.specs.DrawnTrees.{with_last, lasts, row_lasts, Drawn, Row, Leaf, Over, Bare, And, called, last_trees, trees_before, reduced, nodes, row_nodes, size, visits, row_visits, with_step, with_steps}
use Rattle.lrshown.specs.StoredTrees.{is_over, with_symbol, with_first, entered, row_entered, ends, visit_of, IsLaid}

trees_before-bare : (ss : List PartSymbol) → trees_before ss Bare ≡ Bare
trees_before-bare [] = refl
trees_before-bare (s ∷ ss) = refl

pub trees_before-append : (ss us : List PartSymbol) (ts : Row) → trees_before (ss ++ us) ts ≡ trees_before us (trees_before ss ts)
trees_before-append [] us ts = refl
trees_before-append (s ∷ ss) us Bare = sym (trees_before-bare us)
trees_before-append (s ∷ ss) us (And ts t) = trees_before-append ss us ts

pub last_trees-push : (ss : List PartSymbol) (s : PartSymbol) (ts : Row)
    → row_nodes (last_trees (ss ++ s ∷ []) ts) ≡ row_nodes (last_trees (s ∷ []) (trees_before ss ts)) ++ row_nodes (last_trees ss ts)
last_trees-push [] s ts = sym (append-nil (row_nodes (last_trees (s ∷ []) ts)))
last_trees-push (r ∷ ss) s Bare = refl
last_trees-push (r ∷ ss) s (And ts t) =
    ap (λ l. l ++ nodes (called r t)) (last_trees-push ss s ts)
    ∙ append_assoc (row_nodes (last_trees (s ∷ []) (trees_before ss ts))) (row_nodes (last_trees ss ts)) (nodes (called r t))

nodes-called : (s : PartSymbol) (t : Drawn) → length (nodes (called s t)) ≡ length (nodes t)
nodes-called s (Leaf u) = refl
nodes-called s (Over p ts) = refl

entered-called : (n : ℕ) (s : PartSymbol) (t : Drawn) → entered n (called s t) ≡ entered n t
entered-called n s (Leaf u) = refl
entered-called n s (Over p ts) = refl

pub size-split : (ss : List PartSymbol) (ts : Row) → size (trees_before ss ts) + size (last_trees ss ts) ≡ size ts
size-split [] ts = omega arith
size-split (s ∷ ss) Bare = refl
size-split (s ∷ ss) (And ts t) =
    omega (arith, size-split ss ts, nodes-called s t, length-append (row_nodes ts) (nodes t), length-append (row_nodes (last_trees ss ts)) (nodes (called s t)))

pub row_entered-split : (ss : List PartSymbol) (ts : Row)
    → row_entered 0 ts ≡ row_entered 0 (trees_before ss ts) ++ row_entered (size (trees_before ss ts)) (last_trees ss ts)
row_entered-split [] ts = sym (append-nil (row_entered 0 ts))
row_entered-split (s ∷ ss) Bare = refl
row_entered-split (s ∷ ss) (And ts t) =
    let n = size (trees_before ss ts) in
    let m : 0 + size ts ≡ n + size (last_trees ss ts) = omega (arith, size-split ss ts) in
    ap (λ l. l ++ entered (0 + size ts) t) (row_entered-split ss ts)
    ∙ append_assoc (row_entered 0 (trees_before ss ts)) (row_entered n (last_trees ss ts)) (entered (0 + size ts) t)
    ∙ ap (λ e. row_entered 0 (trees_before ss ts) ++ (row_entered n (last_trees ss ts) ++ e))
    (ap (λ k. entered k t) m ∙ sym (entered-called (n + size (last_trees ss ts)) s t))

length-with_first : (m : ℕ) (es : List (List ℕ)) → length (with_first m es) ≡ length es
length-with_first m [] = refl
length-with_first m (e ∷ es) = refl

mutual
  pub entered-length : (n : ℕ) (t : Drawn) → length (entered n t) ≡ length (nodes t)
  entered-length n (Leaf s) = refl
  entered-length n (Over p ts) =
      length-with_first (n + size ts) (row_entered n ts ++ [] ∷ [])
      ∙ (length-append (row_entered n ts) ([] ∷ []) ∙ (ap (λ k. k + 1) (row_entered-length n ts) ∙ sym (length-append (row_nodes ts) (code.Inner p ∷ []))))

  pub row_entered-length : (n : ℕ) (ts : Row) → length (row_entered n ts) ≡ size ts
  row_entered-length n Bare = refl
  row_entered-length n (And ts t) =
      omega (arith, length-append (row_entered n ts) (entered (n + size ts) t), length-append (row_nodes ts) (nodes t), row_entered-length n ts, entered-length (n + size ts) t)

-- the visits of nodes with numbers from this one on, by what is entered before each
abbrev pub visits_by : ℕ → List Node → List (List ℕ) → List Visit
visits_by n [] es = []
visits_by n (x ∷ xs) [] = visit_of n x ∷ visits_by (suc n) xs []
visits_by n (x ∷ xs) (e ∷ es) = (map visit.Enter (reverse e) ++ visit_of n x ∷ []) ++ visits_by (suc n) xs es

visits_by-append : (n : ℕ) (xs ys : List Node) (es fs : List (List ℕ)) → length es ≡ length xs
    → visits_by n (xs ++ ys) (es ++ fs) ≡ visits_by n xs es ++ visits_by (n + length xs) ys fs
visits_by-append n [] ys [] fs h = ap (λ k. visits_by k ys fs) (omega arith)
visits_by-append n [] ys (e ∷ es) fs h = absurd (omega arith)
visits_by-append n (x ∷ xs) ys [] fs h = absurd (omega arith)
visits_by-append n (x ∷ xs) ys (e ∷ es) fs h =
    let k : suc n + length xs ≡ n + suc (length xs) = omega arith in
    ap (λ l. (map visit.Enter (reverse e) ++ visit_of n x ∷ []) ++ l) (visits_by-append (suc n) xs ys es fs (omega arith) ∙ ap (λ i. visits_by (suc n) xs es ++ visits_by i ys fs) k)
    ∙ sym (append_assoc (map visit.Enter (reverse e) ++ visit_of n x ∷ []) (visits_by (suc n) xs es) (visits_by (n + suc (length xs)) ys fs))

visits_by-first : (n m : ℕ) (xs : List Node) (es : List (List ℕ)) → length es ≡ length xs → 0 < length xs
    → visits_by n xs (with_first m es) ≡ visit.Enter m ∷ visits_by n xs es
visits_by-first n m [] es h k = absurd (omega arith)
visits_by-first n m (x ∷ xs) [] h k = absurd (omega arith)
visits_by-first n m (x ∷ xs) (e ∷ es) h k =
    ap (λ l. (map visit.Enter l ++ visit_of n x ∷ []) ++ visits_by (suc n) xs es) (reverse-append e (m ∷ []))

mutual
  visits_by-tree : (n : ℕ) (t : Drawn) → visits_by n (nodes t) (entered n t) ≡ visits n t
  visits_by-tree n (Leaf s) = refl
  visits_by-tree n (Over p ts) =
      visits_by-first n (n + size ts) (row_nodes ts ++ code.Inner p ∷ []) (row_entered n ts ++ [] ∷ [])
      (omega (arith, length-append (row_entered n ts) ([] ∷ []), length-append (row_nodes ts) (code.Inner p ∷ []), row_entered-length n ts))
      (omega (arith, length-append (row_nodes ts) (code.Inner p ∷ [])))
      ∙ ap (λ l. visit.Enter (n + size ts) ∷ l)
      (visits_by-append n (row_nodes ts) (code.Inner p ∷ []) (row_entered n ts) ([] ∷ []) (row_entered-length n ts)
      ∙ ap (λ l. l ++ visit.Leave (n + size ts) ∷ []) (visits_by-row n ts))

  pub visits_by-row : (n : ℕ) (ts : Row) → visits_by n (row_nodes ts) (row_entered n ts) ≡ row_visits n ts
  visits_by-row n Bare = refl
  visits_by-row n (And ts t) =
      visits_by-append n (row_nodes ts) (nodes t) (row_entered n ts) (entered (n + size ts) t) (row_entered-length n ts)
      ∙ ap (λ l. l ++ visits_by (n + size ts) (nodes t) (entered (n + size ts) t)) (visits_by-row n ts)
      ∙ ap (λ l. row_visits n ts ++ l) (visits_by-tree (n + size ts) t)

-- one node after the other
visits_by-cons : (n : ℕ) (x : Node) (xs : List Node) (es : List (List ℕ))
    → visits_by n (x ∷ xs) es ≡ (map visit.Enter (reverse (get_or es 0 [])) ++ visit_of n x ∷ []) ++ visits_by (suc n) xs (drop 1 es)
visits_by-cons n x xs [] = refl
visits_by-cons n x xs (e ∷ es) = refl

pub visits_by-next : (xs : List Node) (es : List (List ℕ)) (i : ℕ) (d : Node) → i < length xs
    → visits_by i (drop i xs) (drop i es)
    ≡ (map visit.Enter (reverse (get_or es i [])) ++ visit_of i (get_or xs i d) ∷ []) ++ visits_by (i + 1) (drop (i + 1) xs) (drop (i + 1) es)
visits_by-next xs es i d h =
    ap (λ l. visits_by i l (drop i es)) (drop-cons xs i d h)
    ∙ (visits_by-cons i (get_or xs i d) (drop (suc i) xs) (drop i es)
    ∙ simp (get_or-drop, drop-drop, add-zero, add-one))

-- a tree ends with its root
abbrev front : Drawn → List Node
front (Leaf s) = []
front (Over p ts) = row_nodes ts

abbrev root : Drawn → Node
root (Leaf s) = code.Leaf s
root (Over p ts) = code.Inner p

nodes-root : (t : Drawn) → nodes t ≡ front t ++ root t ∷ []
nodes-root (Leaf s) = refl
nodes-root (Over p ts) = refl

called-root : (s : PartSymbol) (t : Drawn) → nodes (called s t) ≡ front t ++ with_symbol s (root t) ∷ []
called-root s (Leaf u) = refl
called-root s (Over p ts) = refl

-- the root of the last one of trees in a row, behind which others stand
rooted : (ts : Row) (t : Drawn) (below : List Node) → (row_nodes ts ++ nodes t) ++ below ≡ (row_nodes ts ++ front t) ++ root t ∷ below
rooted ts t below = simp (nodes-root t, append_assoc)

row-root : (s : PartSymbol) (ts : Row) (t : Drawn) (below : List Node)
    → (row_nodes ts ++ front t) ++ with_symbol s (root t) ∷ below ≡ row_nodes ts ++ (nodes (called s t) ++ below)
row-root s ts t below = simp (called-root s t, append_assoc)

before-root : (ts : Row) (t : Drawn) → size (And ts t) - 1 ≡ length (row_nodes ts ++ front t)
before-root ts t =
    omega (arith, ap length (nodes-root t), length-append (row_nodes ts) (nodes t), length-append (row_nodes ts) (front t), length-append (front t) (root t ∷ []))

-- the last tree of a row is taken away as one for a symbol: where it ends, and its root
pub record TakesLast (ns : List Node) (ts : Row) (below : List Node) (s : PartSymbol) (es : List ℕ) (end : ℕ) : Type 0 where
  pub within : end - 1 < length ns
  pub rest : es ≡ ends (trees_before (s ∷ []) ts)
  pub root_is :
      (x : Node) → x ≡ get_or ns (end - 1) x
      → set ns (end - 1) (with_symbol s x) ≡ row_nodes (trees_before (s ∷ []) ts) ++ (row_nodes (last_trees (s ∷ []) ts) ++ below)

takes-and : (ns : List Node) (ts : Row) (t : Drawn) (below : List Node) (s : PartSymbol) (end : ℕ)
    → ns ≡ (row_nodes ts ++ nodes t) ++ below → end ≡ size (And ts t) → TakesLast ns (And ts t) below s (ends ts) end
takes-and ns ts t below s end e k =
    let at : end - 1 ≡ length (row_nodes ts ++ front t) = omega (arith, k, before-root ts t) in
    let all : ns ≡ (row_nodes ts ++ front t) ++ root t ∷ below = e ∙ rooted ts t below in
    record {
      within = omega (arith, at, ap length all, length-append (row_nodes ts ++ front t) (root t ∷ below));
      rest = refl;
      root_is = λ x h.
          let same : x ≡ root t = h ∙ (ap (λ l. get_or l (end - 1) x) all ∙ (ap (λ i. get_or ((row_nodes ts ++ front t) ++ root t ∷ below) i x) at ∙ get_or-append_seam (row_nodes ts ++ front t) (root t) below x)) in
          ap (λ l. set l (end - 1) (with_symbol s x)) all
          ∙ (ap (λ i. set ((row_nodes ts ++ front t) ++ root t ∷ below) i (with_symbol s x)) at
          ∙ (ap (λ y. set ((row_nodes ts ++ front t) ++ root t ∷ below) (length (row_nodes ts ++ front t)) (with_symbol s y)) same
          ∙ (set-append_seam (row_nodes ts ++ front t) (root t) below (with_symbol s (root t)) ∙ row-root s ts t below)));
    }

pub takes_last : (ns : List Node) (ts : Row) (below : List Node) (s : PartSymbol) (es : List ℕ) (end : ℕ)
    → ns ≡ row_nodes ts ++ below → es ++ end ∷ [] ≡ ends ts → TakesLast ns ts below s es end
takes_last ns Bare below s es end e k = absurd (omega (arith, ap length k, length-append es (end ∷ [])))
takes_last ns (And ts t) below s es end e k =
    let last = same_from_push es (ends ts) end (size (And ts t)) k in
    subst (λ l. TakesLast ns (And ts t) below s l end) (sym last.0) (takes-and ns ts t below s end e last.1)

-- no tree is taken away where there is none
pub takes_none : (ns : List Node) (ts : Row) (below : List Node) (s : PartSymbol) (es : List ℕ)
    → ns ≡ row_nodes ts ++ below → es ≡ ends ts → length es ≡ 0
    → (ns ≡ row_nodes (trees_before (s ∷ []) ts) ++ (row_nodes (last_trees (s ∷ []) ts) ++ below)) × (es ≡ ends (trees_before (s ∷ []) ts))
takes_none ns Bare below s es e k z = (e, k)
takes_none ns (And ts t) below s es e k z = absurd (omega (arith, ap length k, length-append (ends ts) (size (And ts t) ∷ [])))

pub laid-push : (t : stored.Tree) (ss : List PartSymbol) (s : PartSymbol) (ts : Row) (below : List Node)
    → IsLaid t (trees_before (s ∷ []) (trees_before ss ts)) (row_nodes (last_trees (s ∷ []) (trees_before ss ts)) ++ (row_nodes (last_trees ss ts) ++ below))
    → IsLaid t (trees_before (ss ++ s ∷ []) ts) (row_nodes (last_trees (ss ++ s ∷ []) ts) ++ below)
laid-push t ss s ts below h = record {
  nodes_are = rw (trees_before-append ss (s ∷ []) ts, last_trees-push ss s ts, append_assoc) h.nodes_are;
  ends_are = rw (trees_before-append ss (s ∷ []) ts) h.ends_are;
}

-- where the last tree ends
pub last_end : (ts : Row) → unwrap_or (slice_get (ends ts) (length (ends ts) - 1)) 0 ≡ size ts
last_end Bare = refl
last_end (And ts t) =
    let at : length (ends ts ++ size (And ts t) ∷ []) - 1 ≡ length (ends ts) = omega (arith, length-append (ends ts) (size (And ts t) ∷ [])) in
    ap (λ i. unwrap_or (slice_get (ends ts ++ size (And ts t) ∷ []) i) 0) at
    ∙ (unwrap_or-slice_get (ends ts ++ size (And ts t) ∷ []) (length (ends ts)) 0
    ∙ get_or-append_seam (ends ts) (size (And ts t)) [] 0)

-- a production is entered before the first node of what stands behind others
pub entered_at : {V : Type 0} (f : V → List ℕ) (vs : List V) (front behind : List (List ℕ)) (i m : ℕ) (v w : V)
    → map f vs ≡ front ++ behind → length front ≡ i → i < length vs → v ≡ get_or vs i v → f w ≡ f v ++ m ∷ []
    → map f (set vs i w) ≡ front ++ with_first m behind
entered_at f [] front behind i m v w e k h r q = absurd (omega arith)
entered_at f (u ∷ us) [] [] i m v w e k h r q = cc
entered_at f (u ∷ us) [] (b ∷ bs) zero m v w e k h r q = cc
entered_at f (u ∷ us) [] (b ∷ bs) (suc i) m v w e k h r q = absurd (omega arith)
entered_at f (u ∷ us) (g ∷ gs) behind zero m v w e k h r q = absurd (omega arith)
entered_at f (u ∷ us) (g ∷ gs) behind (suc i) m v w e k h r q =
    let tail : map f us ≡ gs ++ behind = cc in
    let head : f u ≡ g = cc in
    let rest = entered_at f us gs behind i m v w tail (omega arith) (omega arith) r q in
    cc

-- a node over the last trees is entered before the first one below it
pub reduced-entered : (p : ℕ) (ss : List PartSymbol) (ts : Row)
    → row_entered 0 (trees_before ss ts) ++ with_first (size ts) (row_entered (size (trees_before ss ts)) (last_trees ss ts) ++ [] ∷ [])
    ≡ row_entered 0 (reduced p ss ts)
reduced-entered p ss ts =
    let n = size (trees_before ss ts) in
    let zeroed : n ≡ 0 + n = omega arith in
    ap (λ m. row_entered 0 (trees_before ss ts) ++ with_first m (row_entered n (last_trees ss ts) ++ [] ∷ [])) (sym (size-split ss ts))
    ∙ ap (λ k. row_entered 0 (trees_before ss ts) ++ with_first (k + size (last_trees ss ts)) (row_entered k (last_trees ss ts) ++ [] ∷ [])) zeroed

pub with_steps-append : (file : FileGrammar) (ts : Row) (ss us : List Step) → with_steps file ts (ss ++ us) ≡ with_steps file (with_steps file ts ss) us
with_steps-append file ts [] us = refl
with_steps-append file ts (s ∷ ss) us = with_steps-append file (with_step file ts s) ss us

-- the last tree is one for a symbol
pub nodes-with_last : (s : PartSymbol) (ts : Row)
    → row_nodes (trees_before (s ∷ []) ts) ++ (row_nodes (last_trees (s ∷ []) ts) ++ []) ≡ row_nodes (with_last (Some s) ts)
nodes-with_last s Bare = refl
nodes-with_last s (And ts t) = ap (λ l. row_nodes ts ++ l) (append-nil (nodes (called s t)))

pub entered-with_last : (s : PartSymbol) (ts : Row) → row_entered 0 ts ≡ row_entered 0 (with_last (Some s) ts)
entered-with_last s Bare = refl
entered-with_last s (And ts t) = ap (λ l. row_entered 0 ts ++ l) (sym (entered-called (0 + size ts) s t))

-- whether the first of some nodes is a leaf, or one that nothing stands below
abbrev pub Starts : List Node → List (List ℕ) → Type 0
Starts [] es = ⊥
Starts (code.Leaf s ∷ xs) es = Unit {0}
Starts (code.Inner p ∷ xs) es = 0 < length (get_or es 0 [])

pub starts-append : (xs ys : List Node) (es fs : List (List ℕ)) → length es ≡ length xs → Starts xs es → Starts (xs ++ ys) (es ++ fs)
starts-append [] ys es fs k h = absurd h
starts-append (code.Leaf s ∷ xs) ys es fs k h = tt
starts-append (code.Inner p ∷ xs) ys [] fs k h = absurd (omega arith)
starts-append (code.Inner p ∷ xs) ys (e ∷ es) fs k h = h

starts-first : (m : ℕ) (xs : List Node) (es : List (List ℕ)) → Starts xs es → Starts xs (with_first m es)
starts-first m [] es h = h
starts-first m (code.Leaf s ∷ xs) es h = tt
starts-first m (code.Inner p ∷ xs) [] h = h
starts-first m (code.Inner p ∷ xs) (e ∷ es) h = omega (arith, length-append e (m ∷ []))

pub nodes-some : (t : Drawn) → 0 < length (nodes t)
nodes-some (Leaf s) = omega arith
nodes-some (Over p ts) = omega (arith, length-append (row_nodes ts) (code.Inner p ∷ []))

mutual
  pub starts-tree : (n : ℕ) (t : Drawn) → Starts (nodes t) (entered n t)
  starts-tree n (Leaf s) = tt
  starts-tree n (Over p Bare) = omega arith
  starts-tree n (Over p (And ts t)) =
      starts-first (n + size (And ts t)) (row_nodes (And ts t) ++ code.Inner p ∷ []) (row_entered n (And ts t) ++ [] ∷ [])
      (starts-append (row_nodes (And ts t)) (code.Inner p ∷ []) (row_entered n (And ts t)) ([] ∷ []) (row_entered-length n (And ts t))
      (starts-row n (And ts t) (omega (arith, nodes-some t, length-append (row_nodes ts) (nodes t)))))

  pub starts-row : (n : ℕ) (ts : Row) → 0 < size ts → Starts (row_nodes ts) (row_entered n ts)
  starts-row n Bare h = absurd (omega arith)
  starts-row n (And Bare t) h = starts-tree (n + 0) t
  starts-row n (And (And us u) t) h =
      starts-append (row_nodes (And us u)) (nodes t) (row_entered n (And us u)) (entered (n + size (And us u)) t) (row_entered-length n (And us u))
      (starts-row n (And us u) (omega (arith, nodes-some u, length-append (row_nodes us) (nodes u))))

-- whether a node is the last one in its row, by what comes next to it, if anything does
abbrev lasts_by : Bool → List Node → List (List ℕ) → List Bool
lasts_by b [] es = []
lasts_by b (x ∷ []) es = b ∷ []
lasts_by b (x ∷ y ∷ xs) es = is_over (Some y) (get_or es 1 []) ∷ lasts_by b (y ∷ xs) (drop 1 es)

lasts_by-at : (xs : List Node) (es : List (List ℕ)) (i : ℕ)
    → is_over (slice_get xs (suc i)) (get_or es (suc i) []) ≡ get_or (lasts_by true xs es) i true
lasts_by-at [] es i = refl
lasts_by-at (x ∷ []) es zero = refl
lasts_by-at (x ∷ []) es (suc i) = refl
lasts_by-at (x ∷ y ∷ xs) es zero = refl
lasts_by-at (x ∷ y ∷ xs) es (suc i) =
    let at : suc (suc i) ≡ 1 + suc i = omega arith in
    ap (λ e. is_over (slice_get (y ∷ xs) (suc i)) e) (ap (λ k. get_or es k []) at ∙ sym (get_or-drop 1 es (suc i) [])) ∙ lasts_by-at (y ∷ xs) (drop 1 es) i

lasts_by-append : (b : Bool) (xs : List Node) (y : Node) (ys : List Node) (es fs : List (List ℕ)) → length es ≡ length xs
    → lasts_by b (xs ++ y ∷ ys) (es ++ fs) ≡ lasts_by (is_over (Some y) (get_or fs 0 [])) xs es ++ lasts_by b (y ∷ ys) fs
lasts_by-append b [] y ys [] fs h = refl
lasts_by-append b [] y ys (e ∷ es) fs h = absurd (omega arith)
lasts_by-append b (x ∷ xs) y ys [] fs h = absurd (omega arith)
lasts_by-append b (x ∷ []) y ys (e ∷ []) fs h = refl
lasts_by-append b (x ∷ []) y ys (e ∷ f ∷ es) fs h = absurd (omega arith)
lasts_by-append b (x ∷ z ∷ zs) y ys (e ∷ []) fs h = absurd (omega arith)
lasts_by-append b (x ∷ z ∷ zs) y ys (e ∷ f ∷ es) fs h =
    ap (λ l. is_over (Some z) f ∷ l) (lasts_by-append b (z ∷ zs) y ys (f ∷ es) fs (omega arith))

lasts_by-first : (b : Bool) (m : ℕ) (xs : List Node) (es : List (List ℕ)) → lasts_by b xs (with_first m es) ≡ lasts_by b xs es
lasts_by-first b m [] es = refl
lasts_by-first b m (x ∷ []) es = refl
lasts_by-first b m (x ∷ y ∷ xs) [] = refl
lasts_by-first b m (x ∷ y ∷ xs) (e ∷ es) = refl

starts-over : (y : Node) (ys : List Node) (es : List (List ℕ)) → Starts (y ∷ ys) es → is_over (Some y) (get_or es 0 []) ≡ false
starts-over (code.Leaf s) ys es h = refl
starts-over (code.Inner p) ys [] h = absurd (omega arith)
starts-over (code.Inner p) ys ([] ∷ es) h = absurd (omega arith)
starts-over (code.Inner p) ys ((m ∷ ms) ∷ es) h = refl

lasts_by-behind : (b : Bool) (xs ys : List Node) (es fs : List (List ℕ)) → length es ≡ length xs → 0 < length ys → Starts ys fs
    → lasts_by b (xs ++ ys) (es ++ fs) ≡ lasts_by false xs es ++ lasts_by b ys fs
lasts_by-behind b xs [] es fs h k s = absurd (omega arith)
lasts_by-behind b xs (y ∷ ys) es fs h k s =
    lasts_by-append b xs y ys es fs h ∙ ap (λ c. lasts_by c xs es ++ lasts_by b (y ∷ ys) fs) (starts-over y ys fs s)

mutual
  lasts_by-tree : (n : ℕ) (b : Bool) (t : Drawn) → lasts_by b (nodes t) (entered n t) ≡ lasts b t
  lasts_by-tree n b (Leaf s) = refl
  lasts_by-tree n b (Over p ts) =
      lasts_by-first b (n + size ts) (row_nodes ts ++ code.Inner p ∷ []) (row_entered n ts ++ [] ∷ [])
      ∙ (lasts_by-append b (row_nodes ts) (code.Inner p) [] (row_entered n ts) ([] ∷ []) (row_entered-length n ts)
      ∙ ap (λ l. l ++ b ∷ []) (lasts_by-row n true ts))

  lasts_by-row : (n : ℕ) (b : Bool) (ts : Row) → lasts_by b (row_nodes ts) (row_entered n ts) ≡ row_lasts b ts
  lasts_by-row n b Bare = refl
  lasts_by-row n b (And ts t) =
      lasts_by-behind b (row_nodes ts) (nodes t) (row_entered n ts) (entered (n + size ts) t) (row_entered-length n ts) (nodes-some t) (starts-tree (n + size ts) t)
      ∙ (ap (λ l. l ++ lasts_by b (nodes t) (entered (n + size ts) t)) (lasts_by-row n false ts)
      ∙ ap (λ l. row_lasts false ts ++ l) (lasts_by-tree (n + size ts) b t))

-- a node is the last one in its row where what comes next is over it, or nothing comes
pub is_over-next : (ts : Row) (i : ℕ) → is_over (slice_get (row_nodes ts) (i + 1)) (get_or (row_entered 0 ts) (i + 1) []) ≡ get_or (row_lasts true ts) i true
is_over-next ts i =
    ap (λ k. is_over (slice_get (row_nodes ts) k) (get_or (row_entered 0 ts) k [])) (add-one i)
    ∙ (lasts_by-at (row_nodes ts) (row_entered 0 ts) i ∙ ap (λ l. get_or l i true) (lasts_by-row 0 true ts))
