-- what an entry of a list of conflicts tells, and what is listed
use Rattle.std.proofs.Common.{◌≡◌, ◌≢◌, ℕ, ◌<◌, Bool, true, false, cond, not, ◌&&◌, List, [], ◌∷◌, length, refl, sym, ap, ◌∙◌, Option, None, Some, ◌⊎◌, inl, inr, arith}
use Rattle.std.specs.Prelude.{◌==◌}
use Rattle.std.specs.List.{list_any, range_with_len}
use Rattle.lrspec.specs.grammars.Grammar.{Token, Precedence, Grammar, token_count, token_precedence, production_precedence}
use Rattle.lrspec.specs.merging.Graph.{Graph, closed_of, edge}
use Rattle.lrspec.specs.tables.Table.{is_complete_at, reductions, reduce_reduce_entry, reduce_reduce_of, listed, shift_reduce_entry, shift_reduce_of}
use Rattle.lrspec.proofs.grammars.ListMembers.{Among, among_flat_map, from_flat_map, among_filter_map, from_filter_map, among_below, below_from_range, empty_among, least_first, among_from_test, test_from_among}

-- what an entry of the list of reduce/reduce conflicts says: both productions are reductions on the token
pub record IsPair (g : Grammar) (h : Graph) (t p q s : ℕ) : Type 0 where
  pub below : s < length h
  pub token : t < token_count g
  pub order : p < q
  pub first : Among p (reductions g (closed_of h s) t)
  pub second : Among q (reductions g (closed_of h s) t)

-- what an entry of the list of shift/reduce conflicts says: there is an edge on the token, and the production is a
-- reduction on it
pub record IsMix (g : Grammar) (h : Graph) (t p s : ℕ) : Type 0 where
  pub below : s < length h
  pub token : t < token_count g
  pub target : ℕ
  pub leads : edge h s (Token t) ≡ Some target
  pub reduces : Among p (reductions g (closed_of h s) t)

some_by_test : {X : Type 0} (b : Bool) (x y : X) → cond b (Some x) None ≡ Some y → (b ≡ true) × (x ≡ y)
some_by_test true x y e = (refl, cc)
some_by_test false x y e = cc

pair_by_entry :
    (rs : List ℕ) (q s t : ℕ) (y : ℕ × ℕ × ℕ × ℕ) → reduce_reduce_entry rs s q t ≡ Some y
    → (t ≡ y.0) × (q ≡ y.2) × (s ≡ y.3) × ((ps : List ℕ) × (rs ≡ y.1 ∷ ps) × Among q ps)
pair_by_entry [] q s t y e = cc
pair_by_entry (r ∷ rs) q s t y e =
    let (k, m) = some_by_test {X = ℕ × ℕ × ℕ × ℕ} (list_any (λ r. r == q) rs) (t, r, q, s) y e in
    (ap (λ z. z.0) m, ap (λ z. z.2) m, ap (λ z. z.3) m, (rs, ap (λ z. z.1 ∷ rs) m, among_from_test q rs k))

pair_from_parts :
    (g : Grammar) (h : Graph) (v r u t p q s : ℕ) → v < length h → u < token_count g
    → (u ≡ t) × (r ≡ q) × (v ≡ s) × ((ps : List ℕ) × (reductions g (closed_of h v) u ≡ p ∷ ps) × Among r ps) → IsPair g h t p q s
pair_from_parts g h v r u t p q s l n (i, j, k, (ps, e, m)) =
    let rest : Among q ps = rw j at m in
    let are : reductions g (closed_of h s) t ≡ p ∷ ps = rw (i, k) at e in
    record {
      below = omega (arith, l, k);
      token = omega (arith, n, i);
      order = least_first (λ p. not (p == g.start_production) && is_complete_at g (closed_of h s) t p) 0 (length g.productions) p q ps are rest;
      first = rw are (inl refl);
      second = rw are (inr rest);
    }

pair_from_entry :
    (g : Grammar) (h : Graph) (v r u : ℕ) (y : ℕ × ℕ × ℕ × ℕ) → v < length h → u < token_count g
    → reduce_reduce_entry (reductions g (closed_of h v) u) v r u ≡ Some y → IsPair g h y.0 y.1 y.2 y.3
pair_from_entry g h v r u y l n e = pair_from_parts g h v r u y.0 y.1 y.2 y.3 l n (pair_by_entry (reductions g (closed_of h v) u) r v u y e)

-- an entry of the list of reduce/reduce conflicts is such a pair
pub listed_pair : (g : Grammar) (h : Graph) (t p q s : ℕ) → Among (t, p, q, s) (reduce_reduce_of g h) → IsPair g h t p q s
listed_pair g h t p q s i =
    let (v, j, k) = from_flat_map _ (t, p, q, s) (range_with_len 0 (length h)) i in
    let (r, l, m) = from_flat_map _ (t, p, q, s) (range_with_len 0 (length g.productions)) k in
    let (u, n, e) = from_filter_map _ (t, p, q, s) (range_with_len 0 (token_count g)) m in
    pair_from_entry g h v r u (t, p, q, s) (below_from_range (length h) v j) (below_from_range (token_count g) u n) e

mix_by_listed : (o r : Option Precedence) (x y : ℕ × ℕ × ℕ) → listed o r x ≡ Some y → x ≡ y
mix_by_listed None r x y e = cc
mix_by_listed (Some a) None x y e = cc
mix_by_listed (Some a) (Some b) x y e = cc

mix_by_entry :
    (g : Grammar) (rs : List ℕ) (o : Option ℕ) (s t : ℕ) (y : ℕ × ℕ × ℕ) → shift_reduce_entry g rs o s t ≡ Some y
    → (t ≡ y.0) × (s ≡ y.2) × ((u : ℕ) × (o ≡ Some u)) × Among y.1 rs
mix_by_entry g [] o s t y e = cc
mix_by_entry g (r ∷ rs) None s t y e = cc
mix_by_entry g (r ∷ rs) (Some u) s t y e =
    let m = mix_by_listed (token_precedence g t) (production_precedence g r) (t, r, s) y e in
    (ap (λ z. z.0) m, ap (λ z. z.2) m, (u, refl), inl (sym (ap (λ z. z.1) m)))

mix_from_parts :
    (g : Grammar) (h : Graph) (v u t p s : ℕ) → v < length h → u < token_count g
    → (u ≡ t) × (v ≡ s) × ((k : ℕ) × (edge h v (Token u) ≡ Some k)) × Among p (reductions g (closed_of h v) u) → IsMix g h t p s
mix_from_parts g h v u t p s l n (i, j, (k, e), m) = record {
  below = omega (arith, l, j);
  token = omega (arith, n, i);
  target = k;
  leads = rw (i, j) at e;
  reduces = rw (i, j) at m;
}

mix_from_entry :
    (g : Grammar) (h : Graph) (v u : ℕ) (y : ℕ × ℕ × ℕ) → v < length h → u < token_count g
    → shift_reduce_entry g (reductions g (closed_of h v) u) (edge h v (Token u)) v u ≡ Some y → IsMix g h y.0 y.1 y.2
mix_from_entry g h v u y l n e = mix_from_parts g h v u y.0 y.1 y.2 l n (mix_by_entry g (reductions g (closed_of h v) u) (edge h v (Token u)) v u y e)

-- an entry of the list of shift/reduce conflicts is such a mix
pub listed_mix : (g : Grammar) (h : Graph) (t p s : ℕ) → Among (t, p, s) (shift_reduce_of g h) → IsMix g h t p s
listed_mix g h t p s i =
    let (v, j, k) = from_flat_map _ (t, p, s) (range_with_len 0 (length h)) i in
    let (u, n, e) = from_filter_map _ (t, p, s) (range_with_len 0 (token_count g)) k in
    mix_from_entry g h v u (t, p, s) (below_from_range (length h) v j) (below_from_range (token_count g) u n) e

pair_entry :
    (rs : List ℕ) (s t p q : ℕ) → Among p rs → Among q rs → p ≢ q
    → (r : ℕ) × (y : ℕ × ℕ × ℕ × ℕ) × (reduce_reduce_entry rs s r t ≡ Some y) × ((r ≡ p) ⊎ (r ≡ q))
pair_entry [] s t p q i j n = absurd i
pair_entry (r ∷ rs) s t p q (inl i) (inl j) n = absurd (n (i ∙ sym j))
pair_entry (r ∷ rs) s t p q (inl i) (inr j) n = (q, (t, r, q, s), rw (test_from_among q rs j) refl, inr refl)
pair_entry (r ∷ rs) s t p q (inr i) j n =
    elim j [
      | inl k ↦ (p, (t, r, p, s), rw (test_from_among p rs i) refl, inl refl)
      | inr k ↦ (q, (t, r, q, s), rw (test_from_among q rs k) refl, inr refl)
    ]

pair_listed :
    (g : Grammar) (h : Graph) (s t r : ℕ) (y : ℕ × ℕ × ℕ × ℕ) → s < length h → t < token_count g → r < length g.productions
    → reduce_reduce_entry (reductions g (closed_of h s) t) s r t ≡ Some y → Among y (reduce_reduce_of g h)
pair_listed g h s t r y l m n e =
    among_flat_map _ y s (range_with_len 0 (length h)) (among_below (length h) s l)
    (among_flat_map _ y r (range_with_len 0 (length g.productions)) (among_below (length g.productions) r n)
    (among_filter_map _ y t (range_with_len 0 (token_count g)) (among_below (token_count g) t m) e))

-- two reductions on one token are listed
pub two_listed :
    (g : Grammar) (h : Graph) (s t p q : ℕ) → s < length h → t < token_count g → p < length g.productions → q < length g.productions → p ≢ q
    → Among p (reductions g (closed_of h s) t) → Among q (reductions g (closed_of h s) t) → reduce_reduce_of g h ≡ [] → ⊥
two_listed g h s t p q l m first second n i j e =
    let (r, y, k, o) = pair_entry (reductions g (closed_of h s) t) s t p q i j n in
    let there : r < length g.productions = elim o [ inl z ↦ omega (arith, z, first) | inr z ↦ omega (arith, z, second) ] in
    empty_among y (reduce_reduce_of g h) (pair_listed g h s t r y l m there k) e

mix_entry :
    (g : Grammar) (rs : List ℕ) (o : Option ℕ) (s t p u : ℕ) → token_precedence g t ≡ None → Among p rs → o ≡ Some u
    → (y : ℕ × ℕ × ℕ) × (shift_reduce_entry g rs o s t ≡ Some y)
mix_entry g [] o s t p u n i e = absurd i
mix_entry g (r ∷ rs) None s t p u n i e = absurd cc
mix_entry g (r ∷ rs) (Some v) s t p u n i e = ((t, r, s), rw n refl)

-- an edge and a reduction on a token without a precedence are listed
pub mix_listed :
    (g : Grammar) (h : Graph) (s t p u : ℕ) → s < length h → t < token_count g → token_precedence g t ≡ None → edge h s (Token t) ≡ Some u
    → Among p (reductions g (closed_of h s) t) → shift_reduce_of g h ≡ [] → ⊥
mix_listed g h s t p u l m n e i z =
    let (y, k) = mix_entry g (reductions g (closed_of h s) t) (edge h s (Token t)) s t p u n i e in
    empty_among y (shift_reduce_of g h)
    (among_flat_map _ y s (range_with_len 0 (length h)) (among_below (length h) s l)
    (among_filter_map _ y t (range_with_len 0 (token_count g)) (among_below (token_count g) t m) k)) z
