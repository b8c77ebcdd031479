-- what the cell of a state and a token tells of the closed state
use Rattle.std.proofs.Common.{◌≡◌, ◌≢◌, ℕ, suc, zero, ◌+◌, ◌<◌, ◌≤◌, Bool, true, false, cond, not, eqb, ltb, List, [], ◌∷◌, Option, None, Some, length, refl, sym, ap, ◌⊎◌, inl, inr, ⊎_elim, arith}
use Rattle.std.proofs.lemmas.Bool.{cases_eq, and_from, and_parts}
use Rattle.std.proofs.lemmas.Bool.Decides.{eqb_tells}
use Rattle.std.specs.Prelude.{◌&&◌, filter}
use Rattle.std.specs.List.{range_with_len}
use Rattle.std.specs.Option.{IsSomeAnd}
use Rattle.lrspec.specs.grammars.Grammar.{Token, Kind, Left, Right, Nonassoc, Precedence, Grammar, body_of, token_precedence, production_precedence}
use Rattle.lrspec.specs.grammars.ItemSets.{Items, item_at, LooksIn}
use Rattle.lrspec.proofs.grammars.ListMembers.{Among, least_first, among_filter}
use Rattle.lrspec.specs.merging.Graph.{Graph, closed_of, edge}
use Rattle.lrspec.specs.tables.Table as table
use Rattle.lrspec.specs.tables.Table.{Action, bit_or_none, looks_at, is_complete_at, reductions, decide, by_kind, cell_by, cell_of, accepts_at}

-- a set bit of what is listed at an item is one of its bits
looks_by : (o : Option (List Bool)) (t : ℕ) → bit_or_none o t ≡ true → IsSomeAnd o (λ v. bit_or_none (Some v) t ≡ true)
looks_by None t e = cc
looks_by (Some v) t e = e

-- where the test answers true the item looks at the token
pub looks_in_from_test : (a : Items) (p d t : ℕ) → looks_at a p d t ≡ true → LooksIn a p d t
looks_in_from_test a p d t e = looks_by (item_at a p d) t e

-- and the other way round
test_by : (o : Option (List Bool)) (t : ℕ) → IsSomeAnd o (λ v. bit_or_none (Some v) t ≡ true) → bit_or_none o t ≡ true
test_by None t e = absurd e
test_by (Some v) t e = e

-- the test answers true where the item looks at the token
pub test_from_looks_in : (a : Items) (p d t : ℕ) → LooksIn a p d t → looks_at a p d t ≡ true
test_from_looks_in a p d t e = test_by (item_at a p d) t e

-- an element put before a list where it passes the test
kept_cond :
    (f : ℕ → Bool) (b : Bool) (x y : ℕ) (ys : List ℕ) → f y ≡ b → (Among x ys → f x ≡ true) → Among x (cond b (y ∷ ys) ys) → f x ≡ true
kept_cond f true x y ys e go (inl s) = cc
kept_cond f true x y ys e go (inr i) = go i
kept_cond f false x y ys e go i = go i

-- what is kept passes the test
filter_kept : (f : ℕ → Bool) (x : ℕ) (xs : List ℕ) → Among x (filter f xs) → f x ≡ true
filter_kept f x [] i = absurd i
filter_kept f x (y ∷ ys) i = kept_cond f (f y) x y (filter f ys) refl (filter_kept f x ys) i

-- each number of a range is in the list of them
among_range : (a n x : ℕ) → a ≤ x → x < a + n → Among x (range_with_len a n)
among_range a zero x l h = absurd (omega arith)
among_range a (suc n) x l h =
    ⊎_elim (λ (e : x ≡ a). inl e) (λ (k : x ≢ a). inr (among_range (a + 1) n x (omega arith) (omega arith))) (cases_eq x a)

-- the test of `reductions` for another production than the start production
not_same : (x y : ℕ) → x ≢ y → not (eqb x y) ≡ true
not_same x y n = elim (eqb_tells x y) [ inl h ↦ absurd (n h.1) | inr h ↦ ap not h.0 ]

-- and what it tells
apart_from_not : (x y : ℕ) → not (eqb x y) ≡ true → x ≢ y
apart_from_not x y e = elim (eqb_tells x y) [ inl h ↦ cc | inr h ↦ h.1 ]

-- a complete production other than the start production that looks at the token is among the reductions on it
pub among_reductions :
    (g : Grammar) (a : Items) (t p : ℕ) → p < length g.productions → p ≢ g.start_production → LooksIn a p (length (body_of g p)) t
    → Among p (reductions g a t)
among_reductions g a t p l n k =
    among_filter _ p (range_with_len 0 (length g.productions)) (among_range 0 (length g.productions) p (omega arith) (omega arith))
    (and_from _ _ (not_same p g.start_production n) (test_from_looks_in a p (length (body_of g p)) t k))

-- a reduction is a complete production other than the start production that looks at the token
pub reduction_looks :
    (g : Grammar) (a : Items) (t p : ℕ) → Among p (reductions g a t) → (p ≢ g.start_production) × LooksIn a p (length (body_of g p)) t
reduction_looks g a t p i =
    let kept = filter_kept (λ q. not (eqb q g.start_production) && is_complete_at g a t q) p (range_with_len 0 (length g.productions)) i in
    let both = and_parts (not (eqb p g.start_production)) (is_complete_at g a t p) kept in
    (apart_from_not p g.start_production both.0, looks_in_from_test a p (length (body_of g p)) t both.1)

-- an edge to `u` against the production `p` comes to one of three
abbrev IsOneOf : ℕ → ℕ → Action → Type 0
IsOneOf u p x = (x ≡ table.Action.Shift u) ⊎ (x ≡ table.Action.Reduce p) ⊎ (x ≡ table.Action.Error)

-- by the levels, or by how operators of the level group
chosen_by :
    (m n : Bool) (k : Kind) (u p : ℕ) (x : Action)
    → cond m (table.Action.Shift u) (cond n (table.Action.Reduce p) (by_kind k u p)) ≡ x → IsOneOf u p x
chosen_by true n k u p x e = inl (sym e)
chosen_by false true k u p x e = inr (inl (sym e))
chosen_by false false Left u p x e = inr (inl (sym e))
chosen_by false false Right u p x e = inl (sym e)
chosen_by false false Nonassoc u p x e = inr (inr (sym e))

-- precedences decide for the edge, for the reduction, or for neither
decided : (o r : Option Precedence) (u p : ℕ) (x : Action) → decide o r u p ≡ x → IsOneOf u p x
decided None r u p x e = inl (sym e)
decided (Some a) None u p x e = inl (sym e)
decided (Some a) (Some b) u p x e = chosen_by (ltb b.level a.level) (ltb a.level b.level) a.kind u p x e

-- a cell shifts only along the edge
shift_by : (g : Grammar) (t : ℕ) (ps : List ℕ) (o : Option ℕ) (b : Bool) (u : ℕ) → cell_by g t ps o b ≡ table.Action.Shift u → o ≡ Some u
shift_by g t [] None true u e = cc
shift_by g t [] None false u e = cc
shift_by g t [] (Some v) b u e = cc
shift_by g t (p ∷ ps) None b u e = cc
shift_by g t (p ∷ ps) (Some v) b u e = elim (decided (token_precedence g t) (production_precedence g p) v p (table.Action.Shift u) e) [
  | inl h ↦ cc
  | inr (inl h) ↦ cc
  | inr (inr h) ↦ cc
]

-- it reduces only by the first of the reductions
first_by :
    (g : Grammar) (t : ℕ) (ps : List ℕ) (o : Option ℕ) (b : Bool) (q : ℕ) → cell_by g t ps o b ≡ table.Action.Reduce q
    → (qs : List ℕ) × (ps ≡ q ∷ qs)
first_by g t [] None true q e = cc
first_by g t [] None false q e = cc
first_by g t [] (Some v) b q e = cc
first_by g t (p ∷ ps) None b q e = (ps, cc)
first_by g t (p ∷ ps) (Some v) b q e = elim (decided (token_precedence g t) (production_precedence g p) v p (table.Action.Reduce q) e) [
  | inl h ↦ cc
  | inr (inl h) ↦ (ps, cc)
  | inr (inr h) ↦ cc
]

-- which is one of them
reduce_by : (g : Grammar) (t : ℕ) (ps : List ℕ) (o : Option ℕ) (b : Bool) (q : ℕ) → cell_by g t ps o b ≡ table.Action.Reduce q → Among q ps
reduce_by g t ps o b q e = let (qs, f) = first_by g t ps o b q e in rw f (inl refl)

-- and accepts only where that is told
accept_by : (g : Grammar) (t : ℕ) (ps : List ℕ) (o : Option ℕ) (b : Bool) → cell_by g t ps o b ≡ table.Action.Accept → b ≡ true
accept_by g t [] None true e = refl
accept_by g t [] None false e = cc
accept_by g t [] (Some v) b e = cc
accept_by g t (p ∷ ps) None b e = cc
accept_by g t (p ∷ ps) (Some v) b e = elim (decided (token_precedence g t) (production_precedence g p) v p table.Action.Accept e) [
  | inl h ↦ cc
  | inr (inl h) ↦ cc
  | inr (inr h) ↦ cc
]

-- a cell that shifts has the edge to that state
pub edge_from_shift : (g : Grammar) (h : Graph) (s t u : ℕ) → cell_of g h s t ≡ table.Action.Shift u → edge h s (Token t) ≡ Some u
edge_from_shift g h s t u e = shift_by g t (reductions g (closed_of h s) t) (edge h s (Token t)) (accepts_at g (closed_of h s) t) u e

-- a cell that reduces does so by one of the reductions
pub reduction_of_cell :
    (g : Grammar) (h : Graph) (s t p : ℕ) → cell_of g h s t ≡ table.Action.Reduce p → Among p (reductions g (closed_of h s) t)
reduction_of_cell g h s t p e = reduce_by g t (reductions g (closed_of h s) t) (edge h s (Token t)) (accepts_at g (closed_of h s) t) p e

-- a cell that reduces has that complete production, which looks at the token and isn't the start production
pub looks_from_reduce :
    (g : Grammar) (h : Graph) (s t p : ℕ) → cell_of g h s t ≡ table.Action.Reduce p
    → (p ≢ g.start_production) × LooksIn (closed_of h s) p (length (body_of g p)) t
looks_from_reduce g h s t p e =
    reduction_looks g (closed_of h s) t p (reduction_of_cell g h s t p e)

-- a cell that accepts has the complete start production, which looks at the token
pub looks_from_accept :
    (g : Grammar) (h : Graph) (s t : ℕ) → cell_of g h s t ≡ table.Action.Accept
    → LooksIn (closed_of h s) g.start_production (length (body_of g g.start_production)) t
looks_from_accept g h s t e =
    looks_in_from_test (closed_of h s) g.start_production (length (body_of g g.start_production)) t
    (accept_by g t (reductions g (closed_of h s) t) (edge h s (Token t)) (accepts_at g (closed_of h s) t) e)

-- the first of the reductions is the least
pub least_of_first : (g : Grammar) (a : Items) (t p q : ℕ) (ps : List ℕ) → reductions g a t ≡ p ∷ ps → Among q (p ∷ ps) → p ≤ q
least_of_first g a t p q ps e (inl i) = omega (arith, i)
least_of_first g a t p q ps e (inr i) =
    let l = least_first (λ r. not (eqb r g.start_production) && is_complete_at g a t r) 0 (length g.productions) p q ps e i in omega (arith, l)

-- a cell that reduces does so by the least of the reductions
pub least_from_reduce :
    (g : Grammar) (h : Graph) (s t p q : ℕ) → cell_of g h s t ≡ table.Action.Reduce p → Among q (reductions g (closed_of h s) t) → p ≤ q
least_from_reduce g h s t p q e i =
    let (ps, f) = first_by g t (reductions g (closed_of h s) t) (edge h s (Token t)) (accepts_at g (closed_of h s) t) p e in
    least_of_first g (closed_of h s) t p q ps f (rw f at i)
