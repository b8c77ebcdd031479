-- the words of trees, which are put together node by node
use Rattle.std.proofs.Common.{◌≡◌, ℕ, suc, ◌+◌, ◌<◌, Bool, true, false, List, [], ◌∷◌, ◌++◌, length, map, reverse, get_or, drop, Some, codes, refl, sym, ap, ◌∙◌, arith, append_assoc, length-append, slice_get}
use Rattle.std.proofs.lemmas.List.{append-nil, reverse-append}
use Rattle.std.proofs.lemmas.Option.{slice_get-get_or}
use Rattle.std.proofs.Math.Seq.{get_or-append_seam}
use Rattle.std.proofs.Math.ListN.{set}
use Rattle.std.proofs.Common.{◌≢◌, nat_eq}
use Rattle.std.proofs.lemmas.Bool.Decides.{nat_tests}
use Rattle.std.proofs.Common.{◌-◌, get_or-drop, add-zero, add-one}
use Rattle.std.proofs.lemmas.List.{drop-drop}
use Rattle.std.proofs.Math.Seq.{drop-cons}
use Rattle.lryacc.specs.declared.numbering.FileGrammar.{FileGrammar}
use Rattle.lrshown.specs.declared.trees.Node.{Node}
use Rattle.lrshown.specs.declared.trees.Node.TheVariants as code
use Rattle.lrshown.specs.DrawnTrees.{Drawn, Row, Leaf, Over, Bare, And, nodes, row_nodes, size}
use Rattle.lrshown.specs.StoredTrees.{with_first, entered, row_entered}
use Rattle.lrshown.specs.BracketTexts.{Word, symbol_text, front_text, cut_text, with_front, with_closing, tree_words, row_words, with_dot}
use Rattle.lrshown.specs.BracketSteps.{node_text, front_at, fronts, closed, with_word, with_node}
use Rattle.lrshown.proofs.Rows.{row_entered-length, Starts, starts-append, starts-row, nodes-some}

-- words with nodes, before each of which what is listed is entered
abbrev pub words_by : FileGrammar → List Node → List ℕ → List Bool → List Word → List Node → List (List ℕ) → List Word
words_by file all mark cuts ws [] es = ws
words_by file all mark cuts ws (x ∷ xs) es = words_by file all mark cuts (with_node file all mark cuts ws x (get_or es 0 [])) xs (drop 1 es)

words_by-cons : (file : FileGrammar) (all : List Node) (mark : List ℕ) (cuts : List Bool) (ws : List Word) (x : Node) (xs : List Node) (es : List (List ℕ))
    → words_by file all mark cuts ws (x ∷ xs) es ≡ words_by file all mark cuts (with_node file all mark cuts ws x (get_or es 0 [])) xs (drop 1 es)
words_by-cons file all mark cuts ws x xs es = refl

pub words_by-next : (file : FileGrammar) (all : List Node) (mark : List ℕ) (cuts : List Bool) (ws : List Word) (xs : List Node) (es : List (List ℕ)) (i : ℕ) (d : Node) → i < length xs
    → words_by file all mark cuts ws (drop i xs) (drop i es)
    ≡ words_by file all mark cuts (with_node file all mark cuts ws (get_or xs i d) (get_or es i [])) (drop (i + 1) xs) (drop (i + 1) es)
words_by-next file all mark cuts ws xs es i d h =
    ap (λ l. words_by file all mark cuts ws l (drop i es)) (drop-cons xs i d h)
    ∙ (words_by-cons file all mark cuts ws (get_or xs i d) (drop (suc i) xs) (drop i es) ∙ simp (get_or-drop, drop-drop, add-zero, add-one))

with_closing-length : (w : Word) (ws : List Word) → length (with_closing (w ∷ ws)) ≡ length (w ∷ ws)
with_closing-length w [] = refl
with_closing-length w (v ∷ ws) = ap suc (with_closing-length v ws)

with_closing-some : (ws : List Word) → 0 < length (with_closing ws)
with_closing-some [] = omega arith
with_closing-some (w ∷ ws) = omega (arith, with_closing-length w ws)

with_front-length : (front : List ℕ) (ws : List Word) → length (with_front front ws) ≡ length ws
with_front-length front [] = refl
with_front-length front (w ∷ ws) = refl

closed-length : (ws : List Word) → length (closed ws) ≡ length ws
closed-length [] = refl
closed-length (w ∷ ws) = with_closing-length w ws

closed-some : (ws : List Word) → 0 < length ws → closed ws ≡ with_closing ws
closed-some [] h = absurd (omega arith)
closed-some (w ∷ ws) h = refl

closed-append : (vs ws : List Word) → 0 < length ws → closed (vs ++ ws) ≡ vs ++ closed ws
closed-append [] ws h = refl
closed-append (v ∷ vs) [] h = absurd (omega arith)
closed-append (v ∷ []) (w ∷ ws) h = refl
closed-append (v ∷ u ∷ us) (w ∷ ws) h = ap (λ l. v ∷ l) (closed-append (u ∷ us) (w ∷ ws) h)

closed-front : (front : List ℕ) (ws : List Word) → 0 < length ws → closed (with_front front ws) ≡ with_front front (closed ws)
closed-front front [] h = absurd (omega arith)
closed-front front (w ∷ []) h = ap (λ b. record { bytes = b; has_leaf = w.has_leaf } ∷ []) (append_assoc front w.bytes (codes ")"))
closed-front front (w ∷ v ∷ ws) h = refl

tree_words-some : (file : FileGrammar) (mark : List ℕ) (cuts : List Bool) (n : ℕ) (t : Drawn) → 0 < length (tree_words file mark cuts n t)
tree_words-some file mark cuts n (Leaf s) = omega arith
tree_words-some file mark cuts n (Over p ts) =
    omega (arith, with_front-length (front_text file mark cuts (n + size ts) p) (with_closing (row_words file mark cuts n ts)), with_closing-some (row_words file mark cuts n ts))

pushed-length : (n : ℕ) (ts : Row) (p : ℕ) → length (row_entered n ts ++ [] ∷ []) ≡ length (row_nodes ts ++ code.Inner p ∷ [])
pushed-length n ts p =
    omega (arith, length-append (row_entered n ts) ([] ∷ []), length-append (row_nodes ts) (code.Inner p ∷ []), row_entered-length n ts)

module _ (file : FileGrammar) (all : List Node) (mark : List ℕ) (cuts : List Bool) where
  by-append :
      (xs ys : List Node) (es fs : List (List ℕ)) (ws : List Word) → length es ≡ length xs
      → words_by file all mark cuts ws (xs ++ ys) (es ++ fs) ≡ words_by file all mark cuts (words_by file all mark cuts ws xs es) ys fs
  by-append [] ys [] fs ws h = refl
  by-append [] ys (e ∷ es) fs ws h = absurd (omega arith)
  by-append (x ∷ xs) ys [] fs ws h = absurd (omega arith)
  by-append (x ∷ xs) ys (e ∷ es) fs ws h = by-append xs ys es fs (with_node file all mark cuts ws x e) (omega arith)

  word-length : (ws : List Word) (e text : List ℕ) (b : Bool) → length (with_word file all mark cuts ws e text b) ≡ length ws + 1
  word-length ws e text b = length-append ws _

  node-some : (ws : List Word) (x : Node) (e : List ℕ) → 0 < length ws → 0 < length (with_node file all mark cuts ws x e)
  node-some ws (code.Leaf s) e h = omega (arith, word-length ws e (symbol_text file s) true)
  node-some ws (code.Inner p) [] h = omega (arith, closed-length ws)
  node-some ws (code.Inner p) (m ∷ ms) h = omega (arith, word-length ws (m ∷ ms) (codes ")") false)

  node-append :
      (vs ws : List Word) (x : Node) (e : List ℕ) → 0 < length ws → with_node file all mark cuts (vs ++ ws) x e ≡ vs ++ with_node file all mark cuts ws x e
  node-append vs ws (code.Leaf s) e h = append_assoc vs ws _
  node-append vs ws (code.Inner p) [] h = closed-append vs ws h
  node-append vs ws (code.Inner p) (m ∷ ms) h = append_assoc vs ws _

  word-front :
      (front : List ℕ) (ws : List Word) (e text : List ℕ) (b : Bool) → 0 < length ws
      → with_word file all mark cuts (with_front front ws) e text b ≡ with_front front (with_word file all mark cuts ws e text b)
  word-front front [] e text b h = absurd (omega arith)
  word-front front (w ∷ ws) e text b h = refl

  node-front :
      (front : List ℕ) (ws : List Word) (x : Node) (e : List ℕ) → 0 < length ws
      → with_node file all mark cuts (with_front front ws) x e ≡ with_front front (with_node file all mark cuts ws x e)
  node-front front ws (code.Leaf s) e h = word-front front ws e (symbol_text file s) true h
  node-front front ws (code.Inner p) [] h = closed-front front ws h
  node-front front ws (code.Inner p) (m ∷ ms) h = word-front front ws (m ∷ ms) (codes ")") false h

  by-behind :
      (xs : List Node) (es : List (List ℕ)) (vs ws : List Word) → 0 < length ws
      → words_by file all mark cuts (vs ++ ws) xs es ≡ vs ++ words_by file all mark cuts ws xs es
  by-behind [] es vs ws h = refl
  by-behind (x ∷ xs) es vs ws h =
      ap (λ l. words_by file all mark cuts l xs (drop 1 es)) (node-append vs ws x (get_or es 0 []) h)
      ∙ by-behind xs (drop 1 es) vs (with_node file all mark cuts ws x (get_or es 0 [])) (node-some ws x (get_or es 0 []) h)

  by-front :
      (xs : List Node) (es : List (List ℕ)) (front : List ℕ) (ws : List Word) → 0 < length ws
      → words_by file all mark cuts (with_front front ws) xs es ≡ with_front front (words_by file all mark cuts ws xs es)
  by-front [] es front ws h = refl
  by-front (x ∷ xs) es front ws h =
      ap (λ l. words_by file all mark cuts l xs (drop 1 es)) (node-front front ws x (get_or es 0 []) h)
      ∙ by-front xs (drop 1 es) front (with_node file all mark cuts ws x (get_or es 0 [])) (node-some ws x (get_or es 0 []) h)

  -- one more production is entered before a word
  word-first :
      (m : ℕ) (vs : List Word) (e text : List ℕ) (b : Bool)
      → with_word file all mark cuts vs (e ++ m ∷ []) text b ≡ vs ++ with_front (front_at file all mark cuts m) (with_word file all mark cuts [] e text b)
  word-first m vs e text b =
      ap (λ l. vs ++ record { bytes = fronts file all mark cuts l ++ text; has_leaf = b } ∷ []) (reverse-append e (m ∷ []))
      ∙ ap (λ l. vs ++ record { bytes = l; has_leaf = b } ∷ []) (append_assoc (front_at file all mark cuts m) (fronts file all mark cuts (reverse e)) text)

  node-first :
      (m : ℕ) (vs : List Word) (x : Node) (xs : List Node) (e : List ℕ) (es : List (List ℕ)) → Starts (x ∷ xs) (e ∷ es)
      → with_node file all mark cuts vs x (e ++ m ∷ []) ≡ vs ++ with_front (front_at file all mark cuts m) (with_node file all mark cuts [] x e)
  node-first m vs (code.Leaf s) xs e es h = word-first m vs e (symbol_text file s) true
  node-first m vs (code.Inner p) xs [] es h = absurd (omega arith)
  node-first m vs (code.Inner p) xs (k ∷ ks) es h = word-first m vs (k ∷ ks) (codes ")") false

  node-new : (x : Node) (xs : List Node) (e : List ℕ) (es : List (List ℕ)) → Starts (x ∷ xs) (e ∷ es) → 0 < length (with_node file all mark cuts [] x e)
  node-new (code.Leaf s) xs e es h = omega arith
  node-new (code.Inner p) xs [] es h = absurd (omega arith)
  node-new (code.Inner p) xs (k ∷ ks) es h = omega arith

  by-first :
      (m : ℕ) (xs : List Node) (es : List (List ℕ)) (vs : List Word) → length es ≡ length xs → Starts xs es
      → words_by file all mark cuts vs xs (with_first m es) ≡ vs ++ with_front (front_at file all mark cuts m) (words_by file all mark cuts [] xs es)
  by-first m [] es vs k h = absurd h
  by-first m (x ∷ xs) [] vs k h = absurd (omega arith)
  by-first m (x ∷ xs) (e ∷ es) vs k h =
      let front = front_at file all mark cuts m in
      let new = node-new x xs e es h in
      ap (λ l. words_by file all mark cuts l xs es) (node-first m vs x xs e es h)
      ∙ (by-behind xs es vs (with_front front (with_node file all mark cuts [] x e)) (omega (arith, new, with_front-length front (with_node file all mark cuts [] x e)))
      ∙ ap (λ l. vs ++ l) (by-front xs es front (with_node file all mark cuts [] x e) new))

  front-is :
      (n p : ℕ) (ts : Row) (before behind : List Node) → all ≡ before ++ ((row_nodes ts ++ code.Inner p ∷ []) ++ behind) → length before ≡ n
      → front_at file all mark cuts (n + size ts) ≡ front_text file mark cuts (n + size ts) p
  front-is n p ts before behind e k =
      let whole : all ≡ (before ++ row_nodes ts) ++ code.Inner p ∷ behind = e ∙ simp append_assoc in
      let at : n + size ts ≡ length (before ++ row_nodes ts) = omega (arith, length-append before (row_nodes ts)) in
      let is : slice_get all (n + size ts) ≡ Some (code.Inner p) =
      ap (λ l. slice_get l (n + size ts)) whole
      ∙ (ap (λ i. slice_get ((before ++ row_nodes ts) ++ code.Inner p ∷ behind) i) at
      ∙ (slice_get-get_or ((before ++ row_nodes ts) ++ code.Inner p ∷ behind) (length (before ++ row_nodes ts)) (code.Inner p)
      (omega (arith, length-append (before ++ row_nodes ts) (code.Inner p ∷ behind)))
      ∙ ap Some (get_or-append_seam (before ++ row_nodes ts) (code.Inner p) behind (code.Inner p)))) in
      ap (λ o. (node_text file o ++ codes "(") ++ cut_text mark cuts (n + size ts)) is

  words-over :
      (n p : ℕ) (ts : Row) (vs : List Word) (before behind : List Node) → all ≡ before ++ ((row_nodes ts ++ code.Inner p ∷ []) ++ behind) → length before ≡ n
      → words_by file all mark cuts [] (row_nodes ts) (row_entered n ts) ≡ row_words file mark cuts n ts
      → words_by file all mark cuts vs (nodes (Over p ts)) (entered n (Over p ts)) ≡ vs ++ tree_words file mark cuts n (Over p ts)
  words-over n p Bare vs before behind e k h =
      word-first (n + 0) vs [] (codes ")") false
      ∙ ap (λ l. vs ++ with_front l (with_closing [])) (front-is n p Bare before behind e k)
  words-over n p (And ts t) vs before behind e k h =
      let us = And ts t in
      let m = n + size us in
      let row = row_words file mark cuts n us in
      let some : 0 < size us = omega (arith, nodes-some t, length-append (row_nodes ts) (nodes t)) in
      let words : 0 < length row =
      omega (arith, tree_words-some file mark cuts (n + size ts) t, length-append (row_words file mark cuts n ts) (tree_words file mark cuts (n + size ts) t)) in
      by-first m (row_nodes us ++ code.Inner p ∷ []) (row_entered n us ++ [] ∷ []) vs (pushed-length n us p)
      (starts-append (row_nodes us) (code.Inner p ∷ []) (row_entered n us) ([] ∷ []) (row_entered-length n us) (starts-row n us some))
      ∙ (ap (λ l. vs ++ with_front (front_at file all mark cuts m) l)
      (by-append (row_nodes us) (code.Inner p ∷ []) (row_entered n us) ([] ∷ []) [] (row_entered-length n us)
      ∙ (ap (λ l. closed l) h ∙ closed-some row words))
      ∙ ap (λ l. vs ++ with_front l (with_closing row)) (front-is n p us before behind e k))

  mutual
    words-tree :
        (n : ℕ) (t : Drawn) (vs : List Word) (before behind : List Node) → all ≡ before ++ (nodes t ++ behind) → length before ≡ n
        → words_by file all mark cuts vs (nodes t) (entered n t) ≡ vs ++ tree_words file mark cuts n t
    words-tree n (Leaf s) vs before behind e k = refl
    words-tree n (Over p ts) vs before behind e k =
        let inside : all ≡ before ++ (row_nodes ts ++ (code.Inner p ∷ [] ++ behind)) =
        e ∙ ap (λ l. before ++ l) (append_assoc (row_nodes ts) (code.Inner p ∷ []) behind) in
        words-over n p ts vs before behind e k (words-row n ts [] before (code.Inner p ∷ [] ++ behind) inside k)

    words-row :
        (n : ℕ) (ts : Row) (vs : List Word) (before behind : List Node) → all ≡ before ++ (row_nodes ts ++ behind) → length before ≡ n
        → words_by file all mark cuts vs (row_nodes ts) (row_entered n ts) ≡ vs ++ row_words file mark cuts n ts
    words-row n Bare vs before behind e k = sym (append-nil vs)
    words-row n (And ts t) vs before behind e k =
        let row = row_words file mark cuts n ts in
        by-append (row_nodes ts) (nodes t) (row_entered n ts) (entered (n + size ts) t) vs (row_entered-length n ts)
        ∙ (ap (λ l. words_by file all mark cuts l (nodes t) (entered (n + size ts) t))
        (words-row n ts vs before (nodes t ++ behind) (e ∙ ap (λ l. before ++ l) (append_assoc (row_nodes ts) (nodes t) behind)) k)
        ∙ (words-tree (n + size ts) t (vs ++ row) (before ++ row_nodes ts) behind (e ∙ simp append_assoc) (omega (arith, length-append before (row_nodes ts)))
        ∙ append_assoc vs row (tree_words file mark cuts (n + size ts) t)))

pub words-of_row : (file : FileGrammar) (mark : List ℕ) (cuts : List Bool) (ts : Row)
    → words_by file (row_nodes ts) mark cuts [] (row_nodes ts) (row_entered 0 ts) ≡ row_words file mark cuts 0 ts
words-of_row file mark cuts ts = words-row file (row_nodes ts) mark cuts 0 ts [] [] [] (sym (append-nil (row_nodes ts))) refl

pub fronts-append : (file : FileGrammar) (all : List Node) (mark : List ℕ) (cuts : List Bool) (ms ks : List ℕ)
    → fronts file all mark cuts (ms ++ ks) ≡ fronts file all mark cuts ms ++ fronts file all mark cuts ks
fronts-append file all mark cuts [] ks = refl
fronts-append file all mark cuts (m ∷ ms) ks =
    ap (λ l. front_at file all mark cuts m ++ l) (fronts-append file all mark cuts ms ks)
    ∙ sym (append_assoc (front_at file all mark cuts m) (fronts file all mark cuts ms) (fronts file all mark cuts ks))

-- the last word is one that ends with a closing bracket
pub closed_at : {V : Type 0} (f : V → Word) (vs : List V) (v w : V) → 0 < length vs → v ≡ get_or vs (length vs - 1) v
    → f w ≡ record { bytes = (f v).bytes ++ codes ")"; has_leaf = (f v).has_leaf } → map f (set vs (length vs - 1) w) ≡ closed (map f vs)
closed_at f [] v w h e k = absurd (omega arith)
closed_at f (u ∷ []) v w h e k = ap (λ x. x ∷ []) (k ∙ ap (λ y. record { bytes = (f y).bytes ++ codes ")"; has_leaf = (f y).has_leaf }) e)
closed_at f (u ∷ x ∷ xs) v w h e k =
    let at : length (u ∷ x ∷ xs) - 1 ≡ suc (length (x ∷ xs) - 1) = omega arith in
    let e' : v ≡ get_or (x ∷ xs) (length (x ∷ xs) - 1) v = e ∙ ap (λ i. get_or (u ∷ x ∷ xs) i v) at in
    ap (λ i. map f (set (u ∷ x ∷ xs) i w)) at ∙ ap (λ l. f u ∷ l) (closed_at f (x ∷ xs) v w (omega arith) e' k)

-- the dot stands before this word
pub dot_here : (olds : List (List ℕ)) (w : Word) (ws : List Word) → w.has_leaf ≡ true
    → olds ++ with_dot 0 (w ∷ ws) ≡ ((olds ++ codes "." ∷ []) ++ w.bytes ∷ []) ++ map (λ v. v.bytes) ws
dot_here olds w ws h = rw h (simp append_assoc)

-- it comes later
pub dot_later : (olds : List (List ℕ)) (w : Word) (ws : List Word) (n : ℕ) → w.has_leaf ≡ true → n ≢ 0
    → olds ++ with_dot n (w ∷ ws) ≡ (olds ++ w.bytes ∷ []) ++ with_dot (n - 1) ws
dot_later olds w ws n h k =
    let other : nat_eq n 0 ≡ false = grind (arith, nat_tests) in
    rw (h, other) (simp append_assoc)

-- a word with no leaf has no dot before it, and none has one behind the dot
pub no_leaf : (olds : List (List ℕ)) (w : Word) (ws : List Word) (n : ℕ) → w.has_leaf ≡ false
    → olds ++ with_dot n (w ∷ ws) ≡ (olds ++ w.bytes ∷ []) ++ with_dot n ws
no_leaf olds w ws n h = rw h (simp append_assoc)

pub no_dot : (olds : List (List ℕ)) (w : Word) (ws : List Word) → olds ++ map (λ v. v.bytes) (w ∷ ws) ≡ (olds ++ w.bytes ∷ []) ++ map (λ v. v.bytes) ws
no_dot olds w ws = simp append_assoc
