-- the steps of a walk, as the code makes them
use Rattle.std.proofs.Common.{◌≡◌, ◌≢◌, ℕ, suc, ◌+◌, ◌-◌, ◌*◌, ◌<◌, ◌≤◌, List, [], ◌∷◌, ◌++◌, length, map, reverse, take, set, get_or, refl, sym, ap, ◌∙◌, subst, arith, add-one, length-append, Option, None, Some}
use Rattle.std.specs.Prelude.{sum_by}
use Rattle.std.proofs.lemmas.List.Sums.{sum_by_push, sum_by-set}
use Rattle.std.proofs.lemmas.List.{same_from_push, map-append, length-map, length-reverse, length-take, get_or-map, take_more}
use Rattle.lrgrammar.specs.declared.idx.PIdx.{PIdx}
use Rattle.lrgrammar.specs.declared.idx.Symbol.{Symbol}
use Rattle.lrgrammar.specs.Symbols.{symbol_of}
use Rattle.lrspec.specs.grammars.Grammar as math
use Rattle.lrspec.specs.grammars.Grammar.{Grammar, IsGrammar, body_of}
use Rattle.lrtree.specs.declared.walks.Open as stored
use Rattle.lrtree.specs.Visits.{Visit, Token, Enter, Leave}
use Rattle.lrtree.specs.Walks.{Open, Remains}
use Rattle.lrtree.specs.declared.visits.Visit as code
use Rattle.lrtree.specs.StoredVisits.{visit_of}
use Rattle.lrtree.specs.StoredWalks.{node_of, Follows}
use Rattle.lrtree.proofs.LastFirst.{pushed_first, last_first, set_first}
use Rattle.lrtree.proofs.WalkSteps.{walk_ends, node_begins, token_comes, node_ends}

-- the element at the place, in the body
symbol_at :
    {T : Type 0} (number : T → ℕ) (ys : List (Symbol T)) (body : List math.Symbol) (k : ℕ) (d s : Symbol T)
    → map (symbol_of number) ys ≡ body → k < length body → get_or ys k d ≡ s → get_or body k (symbol_of number d) ≡ symbol_of number s
symbol_at number ys body k d s same below at =
    let f = symbol_of number in
    let within : k < length ys = omega (arith, ap length same, length-map ys f) in
    ap (λ zs. get_or zs k (f d)) (sym same) ∙ get_or-map f ys k d (f d) within ∙ ap f at

-- the symbol of the body at the place
pub next_symbol :
    {T : Type 0} (number : T → ℕ) (ys : List (Symbol T)) (body : List math.Symbol) (k : ℕ) (d s : Symbol T)
    → map (symbol_of number) ys ≡ body → k < length body → get_or ys k d ≡ s
    → take (suc k) body ≡ take k body ++ symbol_of number s ∷ []
next_symbol number ys body k d s same below at =
    let f = symbol_of number in
    ap (λ n. take n body) (sym (add-one k)) ∙ take_more body k (f d) below
    ∙ ap (λ x. take k body ++ x ∷ []) (symbol_at number ys body k d s same below at)

-- a list that is not empty has a first element
some_first : {X : Type 0} (xs : List X) → 0 < length xs → (x : X) × (ys : List X) × (xs ≡ x ∷ ys)
some_first [] l = absurd (omega arith)
some_first (x ∷ xs) l = (x, xs, refl)

-- what remains of a walk without open nodes is nothing
pub some_open : {X : Type 0} (g : Grammar) (f : X → Open) (xs : List X) (rs : List ℕ) (es : List Visit) → Remains g (reverse (map f xs)) rs es → 0 < length xs
some_open g f [] rs es k = absurd k
some_open g f (x ∷ xs) rs es k = omega arith

-- what is missing falls by one, at most `most` and one come, and a production less is left
weight_falls :
    (old set new missing fewer child left less most : ℕ) → new ≡ set + child → set + missing ≡ old + fewer → fewer + 1 ≡ missing → child ≤ most + 1
    → left ≡ less + 1 → new + less * (most + 2) < old + left * (most + 2)
weight_falls old set new missing fewer child left less most a b c d e = rw e (omega arith)

-- with a node the weight falls
pub node_falls :
    {T : Type 0} (most : ℕ) (xs ys : List (stored.Open T)) (i : ℕ) (o q child : stored.Open T) (lefts new : List (PIdx T)) (p : PIdx T)
    → i < length xs → o ≡ get_or xs i o → q.missing + 1 ≡ o.missing → ys ≡ set xs i q ++ child ∷ [] → child.missing ≤ most → lefts ≡ new ++ p ∷ []
    → sum_by (λ (o : stored.Open T). o.missing + 1) ys + length new * (most + 2) < sum_by (λ (o : stored.Open T). o.missing + 1) xs + length lefts * (most + 2)
node_falls {T} most xs ys i o q child lefts new p l is fewer pushed fits popped =
    let f : stored.Open T → ℕ = λ o. o.missing + 1 in
    weight_falls (sum_by f xs) (sum_by f (set xs i q)) (sum_by f ys) (f o) (f q) (f child) (length lefts) (length new) most
    (ap (sum_by f) pushed ∙ sum_by_push f (set xs i q) child)
    (ap (λ z. sum_by f (set xs i q) + f z) is ∙ sum_by-set f xs i q o l)
    (ap (λ k. k + 1) fewer) (omega arith) (ap length popped ∙ length-append new (p ∷ []))

module _ {T : Type 0} (number : T → ℕ) (g : Grammar) (xs : List (stored.Open T)) (n : ℕ) (count : n ≡ length xs) (o : stored.Open T) (is : o ≡ get_or xs (n - 1) o) (rs : List ℕ) (es : List Visit) (k : Remains g (reverse (map (node_of number) xs)) rs es) where
  -- the open nodes but for the innermost one
  abbrev others : List Open
  others = reverse (map (node_of number) (take (n - 1) xs))

  counted : n - 1 + 1 ≡ length xs
  counted = let some : 0 < length xs = some_open g (node_of number) xs rs es k in omega arith

  -- the innermost one comes first
  pub top : (m : ℕ) → o.missing ≡ m → Remains g (record { production = number o.pidx.0; missing = m } ∷ others) rs es
  top m e =
      subst (λ i. Remains g (record { production = number o.pidx.0; missing = i } ∷ others) rs es) e
      (subst (λ fs. Remains g fs rs es) (last_first (node_of number) xs (n - 1) counted o is) k)

  -- nothing comes any more
  pub stored_end : o.missing ≡ 0 → n - 1 ≡ 0 → es ≡ []
  stored_end e last = walk_ends g (number o.pidx.0) rs es (subst (λ i. Remains g (record { production = number o.pidx.0; missing = 0 } ∷ reverse (map (node_of number) (take i xs))) rs es) last (top 0 e))

  -- a node begins
  pub stored_begin :
      (ys : List (stored.Open T)) → ys ≡ take (n - 1) xs → o.missing ≡ 0 → n - 1 ≢ 0
      → (rest : List Visit) × (es ≡ Enter (number o.pidx.0) ∷ rest) × Remains g (reverse (map (node_of number) ys)) rs rest
  stored_begin ys cut e more =
      let c = counted in
      let long : 0 < length others = omega (arith, length-reverse (map (node_of number) (take (n - 1) xs)), length-map (take (n - 1) xs) (node_of number), length-take (n - 1) xs) in
      let (f, fs, split) = some_first others long in
      let (rest, begins, then) = node_begins g (number o.pidx.0) f fs rs es (subst (λ ys. Remains g (record { production = number o.pidx.0; missing = 0 } ∷ ys) rs es) split (top 0 e)) in
      (rest, begins, subst (λ zs. Remains g (reverse (map (node_of number) zs)) rs rest) (sym cut) (subst (λ ys. Remains g ys rs rest) (sym split) then))

  module _ (m : ℕ) (before : o.missing ≡ suc m) (q : stored.Open T) (node : node_of number q ≡ record { production = number o.pidx.0; missing = m }) where
    -- the open nodes where one more child of the innermost one has come
    pub fewer : reverse (map (node_of number) (set xs (n - 1) q)) ≡ record { production = number o.pidx.0; missing = m } ∷ others
    fewer = set_first (node_of number) xs (n - 1) counted q ∙ ap (λ f. f ∷ others) node

    -- the place is one of the body
    pub place_below : m < length (body_of g (number o.pidx.0))
    place_below = let c = top (suc m) before in omega (arith, c.fits)

    -- a token comes
    pub stored_token :
        (t : ℕ) → take (suc m) (body_of g (number o.pidx.0)) ≡ take m (body_of g (number o.pidx.0)) ++ math.Symbol.Token t ∷ []
        → (rest : List Visit) × (es ≡ Token t ∷ rest) × Remains g (reverse (map (node_of number) (set xs (n - 1) q))) rs rest
    stored_token t cut =
        let (rest, comes, then) = token_comes g (number o.pidx.0) m t others rs es (top (suc m) before) cut in
        (rest, comes, subst (λ fs. Remains g fs rs rest) (sym fewer) then)

    -- a node ends, whose production was the last that was left
    pub stored_node :
        (r : ℕ) → take (suc m) (body_of g (number o.pidx.0)) ≡ take m (body_of g (number o.pidx.0)) ++ math.Symbol.Rule r ∷ []
        → (p : ℕ) × (left : List ℕ) × (rest : List Visit) × (rs ≡ left ++ p ∷ []) × (p < length g.productions) × (es ≡ Leave p ∷ rest)
        × Remains g (record { production = p; missing = length (body_of g p) } ∷ reverse (map (node_of number) (set xs (n - 1) q))) left rest
    stored_node r cut =
        let (p, left, rest, last, there, comes, then) = node_ends g (number o.pidx.0) m r others rs es (top (suc m) before) cut in
        (p, left, rest, last, there, comes, subst (λ fs. Remains g (record { production = p; missing = length (body_of g p) } ∷ fs) left rest) (sym fewer) then)

    -- the same by the lists that are kept: `q` was the last that was left, and its children are missing
    module _ (r : ℕ) (cut : take (suc m) (body_of g (number o.pidx.0)) ≡ take m (body_of g (number o.pidx.0)) ++ math.Symbol.Rule r ∷ []) (lefts new : List (PIdx T)) (same : rs ≡ map (λ p. number p.0) lefts) where
      -- some production is left
      pub some_left : 0 < length lefts
      some_left = let e = stored_node r cut in omega (arith, ap length e.3, ap length same, length-append e.1 (e.0 ∷ []), length-map lefts (λ p. number p.0))

      module _ (p : PIdx T) (popped : lefts ≡ new ++ p ∷ []) where
        -- the last one that is left is that of the node
        pub last_left : let e = stored_node r cut in (e.1 ≡ map (λ p. number p.0) new) × (e.0 ≡ number p.0)
        last_left = let e = stored_node r cut in same_from_push e.1 (map (λ p. number p.0) new) e.0 (number p.0) (sym e.3 ∙ same ∙ ap (map (λ p. number p.0)) popped ∙ map-append (λ p. number p.0) new (p ∷ []))

        pub entered_below : number p.0 < length g.productions
        entered_below = let e = stored_node r cut in rw (← last_left.1) e.4

        pub stored_entered :
            (child : stored.Open T) (ys : List (stored.Open T)) → ys ≡ set xs (n - 1) q ++ child ∷ []
            → node_of number child ≡ record { production = number p.0; missing = length (body_of g (number p.0)) }
            → (rest : List Visit) × (es ≡ Leave (number p.0) ∷ rest) × Remains g (reverse (map (node_of number) ys)) (map (λ p. number p.0) new) rest
        stored_entered child ys pushed is_child =
            let (p', left, rest, last, there, comes, then) = stored_node r cut in
            let fs = reverse (map (node_of number) (set xs (n - 1) q)) in
            let opened : reverse (map (node_of number) ys) ≡ record { production = number p.0; missing = length (body_of g (number p.0)) } ∷ fs =
            ap (λ zs. reverse (map (node_of number) zs)) pushed ∙ pushed_first (node_of number) (set xs (n - 1) q) child ∙ ap (λ f. f ∷ fs) is_child in
            let one = subst (λ l. Remains g (record { production = p'; missing = length (body_of g p') } ∷ fs) l rest) last_left.0 then in
            let two = subst (λ i. Remains g (record { production = i; missing = length (body_of g i) } ∷ fs) (map (λ p. number p.0) new) rest) last_left.1 one in
            (rest, comes ∙ ap (λ i. Leave i ∷ rest) last_left.1, subst (λ l. Remains g l (map (λ p. number p.0) new) rest) (sym opened) two)

-- what a walk comes by is the first of the visits
pub first_of :
    {T : Type 0} (number : T → ℕ) (o : Option (code.Visit T)) (e : code.Visit T) (es : List Visit) (P : List Visit → Type 0) → o ≡ Some e → Follows number o es P
    → (rest : List Visit) × (es ≡ visit_of number e ∷ rest) × P rest
first_of number o e es P is f = subst (λ x. Follows number x es P) is f

-- where it comes by nothing there are none
pub none_left :
    {T : Type 0} (number : T → ℕ) (o : Option (code.Visit T)) (es : List Visit) (P : List Visit → Type 0) → ((e : code.Visit T) → o ≡ Some e → ⊥) → Follows number o es P
    → es ≡ []
none_left number None es P n f = f
none_left number (Some e) es P n f = absurd (n e refl)
