-- going over edges, of which no symbol has two: each is what a look-up finds, and each has been met or is still to come
use Rattle.std.proofs.Common.{◌≡◌, ◌≢◌, ℕ, zero, suc, ◌+◌, ◌<◌, ◌≤◌, Bool, true, false, cond, List, [], ◌∷◌, length, map, drop, get_or, None, Some, refl, sym, ap, ◌∙◌, ◌⊎◌, inl, inr, arith}
use Rattle.std.proofs.lemmas.List.{length-map, get_or-map, drop_more, drop_all}
use Rattle.lrgrammar.specs.declared.idx.Symbol as stored
use Rattle.lrgrammar.specs.Symbols.{symbol_of}
use Rattle.lrspec.specs.grammars.Grammar.{Symbol}
use Rattle.lrspec.specs.merging.Graph.{same_symbol, edge_at}
use Rattle.lrgraphs.specs.GraphOf.{edges_of}
use Rattle.lrplacing.specs.Construction.{HasEdgesOnce}
use Rattle.lrpager.specs.Collecting.{IsMarked, HasTarget}
use Rattle.lrgraphs.proofs.EdgeFacts.{test_from_symbol}
use Rattle.lrgraphs.proofs.DistinctSymbols.{AreOnDistinctSymbols, edge_at_place}

-- where no edge is on a symbol, each is on another one
none_on : (x : Symbol) (es : List (Symbol × ℕ)) → edge_at es x ≡ None → (i : ℕ) (d : Symbol × ℕ) → i < length es → (get_or es i d).0 ≢ x
none_on x [] n i d l = absurd (omega arith)
none_on x (e ∷ es) n i d l = go (same_symbol x e.0) refl n (λ m j k. none_on x es m j d k) i l
  where
    go :
        (b : Bool) → same_symbol x e.0 ≡ b → cond b (Some e.1) (edge_at es x) ≡ None
        → (edge_at es x ≡ None → (j : ℕ) → j < length es → (get_or es j d).0 ≢ x) → (i : ℕ) → i < length (e ∷ es)
        → (get_or (e ∷ es) i d).0 ≢ x
    go true t n r i l z = absurd (cc)
    go false t n r zero l z = let same : same_symbol x e.0 ≡ true = rw z (test_from_symbol x) in absurd (cc)
    go false t n r (suc i) l z = r n i (omega arith) z

-- edges of which no symbol has two are on different symbols
pub distinct_once : (es : List (Symbol × ℕ)) → HasEdgesOnce es → AreOnDistinctSymbols es
distinct_once [] once i j d l m = absurd (omega arith)
distinct_once (e ∷ es) once i zero d l m = absurd (omega arith)
distinct_once (e ∷ es) once zero (suc j) d l m = λ z. none_on e.0 es once.0 j d (omega arith) (sym z)
distinct_once (e ∷ es) once (suc i) (suc j) d l m = distinct_once es once.1 i j d (omega arith) (omega arith)

module _ {T X : Type 0} (number : T → ℕ) (state : X → ℕ) (es : List (stored.Symbol T × X)) (k : ℕ) where
  module _ (e : stored.Symbol T × X) (l : k < length es) (at : e ≡ get_or es k e) where
    -- the edge at a place is the one that is found on its symbol
    pub found_here : HasEdgesOnce (edges_of number state es) → edge_at (edges_of number state es) (symbol_of number e.0) ≡ Some (state e.1)
    found_here once =
        let shown : stored.Symbol T × X → Symbol × ℕ = λ f. (symbol_of number f.0, state f.1) in
        let here : get_or (map shown es) k (shown e) ≡ shown e = get_or-map shown es k e (shown e) l ∙ ap shown (sym at) in
        rw here at (edge_at_place (map shown es) (distinct_once (map shown es) once) k (shown e) (rw length-map l))

    -- it is the first of those that are still to come
    pub left_here : edges_of number state (drop k es) ≡ (symbol_of number e.0, state e.1) ∷ edges_of number state (drop (k + 1) es)
    left_here = ap (edges_of number state) (drop_more es k e l ∙ ap (λ f. f ∷ drop (k + 1) es) (sym at))

  -- behind the last place none is
  pub none_left : length es ≤ k → edges_of number state (drop k es) ≡ []
  none_left l = ap (edges_of number state) (drop_all k es l)

-- where edges lead is where the first leads, or where one of the others does
first_or_later : (x : Symbol) (v : ℕ) (rest : List (Symbol × ℕ)) (u : ℕ) → HasTarget ((x, v) ∷ rest) u → (u ≡ v) ⊎ HasTarget rest u
first_or_later x v rest u (y, h) = go (same_symbol y x) h
  where
    go : (b : Bool) → cond b (Some v) (edge_at rest y) ≡ Some u → (u ≡ v) ⊎ HasTarget rest u
    go true i = inl (cc)
    go false i = inr (y, i)

-- one target more is marked
pub marked_turn :
    (es rest : List (Symbol × ℕ)) (x : Symbol) (v : ℕ) (old new : List Bool)
    → ((u : ℕ) → HasTarget es u → IsMarked old u ⊎ HasTarget ((x, v) ∷ rest) u) → ((k : ℕ) → IsMarked old k → IsMarked new k) → IsMarked new v
    → (u : ℕ) → HasTarget es u → IsMarked new u ⊎ HasTarget rest u
marked_turn es rest x v old new come still here u lead = elim (come u lead) [
  | inl m ↦ inl (still u m)
  | inr l ↦ elim (first_or_later x v rest u l) [ inl e ↦ inl (rw e here) | inr later ↦ inr later ]
]

-- all targets are marked where none is to come
pub marked_end :
    (es rest : List (Symbol × ℕ)) (marks : List Bool) → ((u : ℕ) → HasTarget es u → IsMarked marks u ⊎ HasTarget rest u) → rest ≡ []
    → (u : ℕ) → HasTarget es u → IsMarked marks u
marked_end es rest marks come e u lead = elim (come u lead) [ inl m ↦ m | inr l ↦ let none = rw e at l in absurd (nowhere u none) ]
  where
    nowhere : (u : ℕ) → HasTarget [] u → ⊥
    nowhere u (x, h) = cc
