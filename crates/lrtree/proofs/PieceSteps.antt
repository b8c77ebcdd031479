-- how the text of a tree is written, as the code does it
use Rattle.std.proofs.Common.{◌≡◌, ℕ, ◌+◌, ◌<◌, Bool, true, false, List, [], ◌∷◌, ◌++◌, length, map, reverse, Vec, sym, ap, ◌∙◌, subst, append_assoc, append-nil, length-append, arith}
use Rattle.std.specs.Prelude.{sum_by}
use Rattle.std.proofs.Math.Dec.{eqb}
use Rattle.std.specs.Borrow.{Bor}
use Rattle.std.proofs.lemmas.List.{same_from_push, length-map, map-append}
use Rattle.lrgrammar.specs.declared.idx.PIdx.{PIdx}
use Rattle.lrgrammar.specs.StoredGrammar.{numbers_of}
use Rattle.lrspec.specs.grammars.Grammar.{Grammar, Rule}
use Rattle.lrspec.specs.grammars.Trees.{Tree, order, IsTree}
use Rattle.lrspec.specs.texts.TreeTexts.{tree_text}
use Rattle.lrtree.specs.Pieces.{pieces_of}
use Rattle.lrtree.specs.StoredPieces.{texts_of, pieces_at, ArePieces}
use Rattle.lrtree.proofs.LastFirst.{pushed_first}
use Rattle.lrtree.proofs.WrittenNodes.{Remains, root_remains, last_piece, node_begins}
use Rattle.lrtree.proofs.StoredPieces.{pieces_count, at_place}

-- the pieces of the nodes in work, the innermost node first, which is kept last
abbrev pub pieces_open : {Y : Type 0} → List (Bor (List (Vec ℕ Y))) → List (List (List ℕ))
pieces_open bs = reverse (map (λ (b : Bor (List (Vec ℕ _))). texts_of b.now) bs)

-- how many pieces are not written
abbrev pub weight : {T Y Z : Type 0} → (T → ℕ) → List (Vec (Vec ℕ Y) Z) → List (Bor (List (Vec ℕ Y))) → List (PIdx T) → ℕ
weight number nodes bs left =
    sum_by (λ (b : Bor (List (Vec ℕ _))). length b.now) bs + sum_by (λ (p : PIdx _). length (pieces_at nodes (number p.0))) left

module _ {T Y Z : Type 0} (number : T → ℕ) (nodes : List (Vec (Vec ℕ Y) Z)) where
  -- the numbers of productions that one more is pushed on
  numbers_pushed : (ps new : List (PIdx T)) (p : PIdx T) → ps ≡ new ++ p ∷ [] → numbers_of number ps ≡ numbers_of number new ++ number p.0 ∷ []
  numbers_pushed ps new p e = ap (numbers_of number) e ∙ map-append (λ (p : PIdx T). number p.0) new (p ∷ [])

  -- some are kept
  some_kept : (ps : List (PIdx T)) (left : List ℕ) (q : ℕ) → numbers_of number ps ≡ left ++ q ∷ [] → 0 < length ps
  some_kept ps left q e = omega (arith, length-map ps (λ (p : PIdx T). number p.0), ap length e, length-append left (q ∷ []))

  -- pieces that are pushed are those of the innermost node
  pieces_pushed : (new bs : List (Bor (List (Vec ℕ Y)))) (b : Bor (List (Vec ℕ Y))) → new ≡ bs ++ b ∷ [] → pieces_open new ≡ texts_of b.now ∷ pieces_open bs
  pieces_pushed new bs b e = ap pieces_open e ∙ pushed_first (λ (b : Bor (List (Vec ℕ Y))). texts_of b.now) bs b

  module _ (g : Grammar) (are : ArePieces g nodes) where
    module _ (r : ℕ) (t : Tree) (ps : List (PIdx T)) (is : IsTree g (Rule r) t) (productions : order t ≡ numbers_of number ps) where
      -- a tree has a production
      pub root_kept : 0 < length ps
      root_kept = let (q, left, last, there, remains) = root_remains g r t (numbers_of number ps) is productions in some_kept ps left q last

      module _ (new : List (PIdx T)) (p : PIdx T) (popped : ps ≡ new ++ p ∷ []) where
        -- the last one is there
        pub root_there : number p.0 < length nodes
        root_there =
            let (q, left, last, there, remains) = root_remains g r t (numbers_of number ps) is productions in
            let same = same_from_push left (numbers_of number new) q (number p.0) (sym last ∙ numbers_pushed ps new p popped) in
            omega (arith, pieces_count g nodes are, there, same.1)

        -- in the beginning it is in work
        pub root_begins :
            (none bs : List (Bor (List (Vec ℕ Y)))) (b : Bor (List (Vec ℕ Y))) → none ≡ [] → bs ≡ none ++ b ∷ [] → texts_of b.now ≡ pieces_at nodes (number p.0)
            → Remains g (pieces_open bs) (numbers_of number new) (reverse (tree_text g t))
        root_begins none bs b empty pushed of =
            let (q, left, last, there, remains) = root_remains g r t (numbers_of number ps) is productions in
            let same = same_from_push left (numbers_of number new) q (number p.0) (sym last ∙ numbers_pushed ps new p popped) in
            let below : number p.0 < length g.productions = omega (arith, there, same.1) in
            let opened : pieces_open bs ≡ pieces_of g q ∷ [] =
            pieces_pushed bs none b pushed ∙ ap (λ l. texts_of b.now ∷ pieces_open l) empty
            ∙ ap (λ cs. cs ∷ []) (of ∙ at_place g nodes are (number p.0) below ∙ ap (pieces_of g) (sym same.1)) in
            subst (λ css. Remains g css (numbers_of number new) (reverse (tree_text g t))) (sym opened)
            (subst (λ l. Remains g (pieces_of g q ∷ []) l (reverse (tree_text g t))) same.0 remains)

    module _ (old others : List (Bor (List (Vec ℕ Y)))) (b : Bor (List (Vec ℕ Y))) (popped : old ≡ others ++ b ∷ []) (ps : List (PIdx T)) (text : List ℕ) (k : Remains g (pieces_open old) (numbers_of number ps) text) where
      -- what remains of the innermost node and of the others
      inner : Remains g (texts_of b.now ∷ pieces_open others) (numbers_of number ps) text
      inner = subst (λ css. Remains g css (numbers_of number ps) text) (pieces_pushed old others b popped) k

      -- it has a piece that is not written
      pub some_piece : 0 < length b.now
      some_piece = let i = inner in omega (arith, i.fits, length-map b.now (λ (v : Vec ℕ Y). v.items))

      module _ (v : Vec ℕ Y) (vs : List (Vec ℕ Y)) (split : b.now ≡ v ∷ vs) where
        -- the same by its first piece
        first : Remains g ((v.items ∷ texts_of vs) ∷ pieces_open others) (numbers_of number ps) text
        first = subst (λ l. Remains g (texts_of l ∷ pieces_open others) (numbers_of number ps) text) split inner

        -- that is the last one: the others go on
        pub node_ended : vs ≡ [] → (rest : List ℕ) × (text ≡ v.items ++ rest) × Remains g (pieces_open others) (numbers_of number ps) rest
        node_ended none =
            last_piece g v.items (pieces_open others) (numbers_of number ps) text
            (subst (λ l. Remains g ((v.items ∷ texts_of l) ∷ pieces_open others) (numbers_of number ps) text) none first)

        module _ (more : 0 < length vs) where
          -- a node stands before it
          begun :
              (p : ℕ) × (left : List ℕ) × (rest : List ℕ) × (numbers_of number ps ≡ left ++ p ∷ []) × (p < length g.productions) × (text ≡ v.items ++ rest)
              × Remains g (pieces_of g p ∷ texts_of vs ∷ pieces_open others) left rest
          begun =
              node_begins g v.items (texts_of vs) (pieces_open others) (numbers_of number ps) text (omega (arith, more, length-map vs (λ (v : Vec ℕ Y). v.items))) first

          -- whose production is kept
          pub node_kept : 0 < length ps
          node_kept = let (q, left, rest, last, there, comes, then) = begun in some_kept ps left q last

          module _ (new : List (PIdx T)) (p : PIdx T) (taken : ps ≡ new ++ p ∷ []) where
            -- and is there
            pub node_there : number p.0 < length nodes
            node_there =
                let (q, left, rest, last, there, comes, then) = begun in
                let same = same_from_push left (numbers_of number new) q (number p.0) (sym last ∙ numbers_pushed ps new p taken) in
                omega (arith, pieces_count g nodes are, there, same.1)

            -- the node is in work
            pub node_begun :
                (mid bs : List (Bor (List (Vec ℕ Y)))) (o c : Bor (List (Vec ℕ Y))) → o.now ≡ vs → mid ≡ others ++ o ∷ [] → bs ≡ mid ++ c ∷ []
                → texts_of c.now ≡ pieces_at nodes (number p.0)
                → (rest : List ℕ) × (text ≡ v.items ++ rest) × Remains g (pieces_open bs) (numbers_of number new) rest
            node_begun mid bs o c same_vs kept pushed of =
                let (q, left, rest, last, there, comes, then) = begun in
                let same = same_from_push left (numbers_of number new) q (number p.0) (sym last ∙ numbers_pushed ps new p taken) in
                let below : number p.0 < length g.productions = omega (arith, there, same.1) in
                let opened : pieces_open bs ≡ pieces_of g q ∷ texts_of vs ∷ pieces_open others =
                pieces_pushed bs mid c pushed
                ∙ ap (λ css. texts_of c.now ∷ css) (pieces_pushed mid others o kept ∙ ap (λ l. texts_of l ∷ pieces_open others) same_vs)
                ∙ ap (λ cs. cs ∷ texts_of vs ∷ pieces_open others) (of ∙ at_place g nodes are (number p.0) below ∙ ap (pieces_of g) (sym same.1)) in (
                  rest,
                  comes,
                  subst (λ css. Remains g css (numbers_of number new) rest) (sym opened)
                      (subst (λ l. Remains g (pieces_of g q ∷ texts_of vs ∷ pieces_open others) l rest) same.0 then),
                )

-- a list that is not told to be empty has elements
pub more_told : {X : Type 0} (xs : List X) (r : Bool) → r ≡ eqb (length xs) 0 → r ≡ false → 0 < length xs
more_told [] r e f = absurd (let no : true ≡ false = sym e ∙ f in cc)
more_told (x ∷ xs) r e f = omega arith

-- a piece is written in front of what remains
pub written_before : (out piece text rest whole new : List ℕ) → new ≡ out ++ piece → text ≡ piece ++ rest → out ++ text ≡ whole → new ++ rest ≡ whole
written_before out piece text rest whole new pushed comes so_far =
    ap (λ l. l ++ rest) pushed ∙ append_assoc out piece rest ∙ ap (λ l. out ++ l) (sym comes) ∙ so_far

-- in the end nothing remains
pub nothing_remains : (g : Grammar) (css : List (List (List ℕ))) (rs text out whole : List ℕ) → css ≡ [] → Remains g css rs text → out ++ text ≡ whole → out ≡ whole
nothing_remains g css rs text out whole none k so_far =
    let end = subst (λ l. Remains g l rs text) none k in sym (append-nil out) ∙ ap (λ l. out ++ l) (sym end.1) ∙ so_far
