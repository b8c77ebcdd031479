-- the productions of a rule, one after another
use Rattle.std.proofs.Common.{◌≡◌, ◌≢◌, ℕ, zero, suc, ◌+◌, ◌<◌, ◌≤◌, Bool, true, false, cond, List, ◌∷◌, length, map, get_or, refl, sym, ap, ◌∙◌, arith, ◌⊎◌, inl, inr, ⊎_elim, Option, None, Some}
use Rattle.std.specs.Prelude.{filter, slice_get}
use Rattle.std.specs.List.{range_with_len}
use Rattle.std.proofs.lemmas.Bool.{cases_eq, eqb-true}
use Rattle.std.proofs.lemmas.List.{get_or-map, length-map}
use Rattle.lrspec.specs.grammars.Grammar.{Grammar, Production, IsOfRule, IsProductionOf, is_of_rule, productions_of}
use Rattle.lrgrammar.specs.declared.idx.PIdx.{PIdx}
use Rattle.lrspec.proofs.grammars.BodyFacts.{below_of_production, test_from_of_rule}

-- `q` is one of the first `n` of a list of productions
abbrev pub IsAmongFirst : ℕ → List ℕ → ℕ → Type 0
IsAmongFirst n ps q = (k : ℕ) × (k < n) × (k < length ps) × (get_or ps k 0 ≡ q)

pub of_rule_from_test : (o : Option Production) (r : ℕ) → is_of_rule o r ≡ true → IsOfRule o r
of_rule_from_test None r h = cc
of_rule_from_test (Some p) r h = eqb-true p.rule r h

-- what is in a filtered range passes the test
range_passes : (f : ℕ → Bool) (a n k : ℕ) → k < length (filter f (range_with_len a n)) → f (get_or (filter f (range_with_len a n)) k 0) ≡ true
range_passes f a zero k h = absurd (omega arith)
range_passes f a (suc n) k h = go (f a) refl (range_passes f (a + 1) n) k h
  where
    go :
        (b : Bool) → f a ≡ b → ((j : ℕ) → j < length (filter f (range_with_len (a + 1) n)) → f (get_or (filter f (range_with_len (a + 1) n)) j 0) ≡ true) → (k : ℕ)
        → k < length (cond b (a ∷ filter f (range_with_len (a + 1) n)) (filter f (range_with_len (a + 1) n)))
        → f (get_or (cond b (a ∷ filter f (range_with_len (a + 1) n)) (filter f (range_with_len (a + 1) n))) k 0) ≡ true
    go true e r zero l = e
    go true e r (suc k) l = r k (omega arith)
    go false e r k l = r k l

-- a number of a range that passes the test has a place
range_place :
    (f : ℕ → Bool) (a n q : ℕ) → a ≤ q → q < a + n → f q ≡ true
    → (k : ℕ) × (k < length (filter f (range_with_len a n))) × (get_or (filter f (range_with_len a n)) k 0 ≡ q)
range_place f a zero q h l t = absurd (omega arith)
range_place f a (suc n) q h l t =
    ⊎_elim
    (λ (e : q ≡ a). let passes : f a ≡ true = rw e at t in place_here passes (sym e))
    (λ (d : q ≢ a). place_later (f a) (range_place f (a + 1) n q (omega (arith, d)) (omega arith) t))
    (cases_eq q a)
  where
    rest : List ℕ
    rest = filter f (range_with_len (a + 1) n)

    place_here : f a ≡ true → a ≡ q → (k : ℕ) × (k < length (cond (f a) (a ∷ rest) rest)) × (get_or (cond (f a) (a ∷ rest) rest) k 0 ≡ q)
    place_here p e = rw p (0, omega arith, e)

    place_later :
        (b : Bool) → (k : ℕ) × (k < length rest) × (get_or rest k 0 ≡ q) → (k : ℕ) × (k < length (cond b (a ∷ rest) rest)) × (get_or (cond b (a ∷ rest) rest) k 0 ≡ q)
    place_later true s = (suc s.0, omega (arith, s.1), s.2)
    place_later false s = s

-- the productions of a rule are those of the list
pub among_productions : (g : Grammar) (ps : List ℕ) (r n q : ℕ) → ps ≡ productions_of g r → length ps ≤ n → IsProductionOf g q r → IsAmongFirst n ps q
among_productions g ps r n q e l h =
    let s = range_place (λ q. is_of_rule (slice_get g.productions q) r) 0 (length g.productions) q (omega arith) (omega (arith, below_of_production g q r h)) (test_from_of_rule g q r h) in
    let lt : s.0 < length ps = rw e s.1 in
    (s.0, omega (arith, lt, l), lt, rw e s.2)

pub production_among : (g : Grammar) (ps : List ℕ) (r n q : ℕ) → ps ≡ productions_of g r → IsAmongFirst n ps q → IsProductionOf g q r
production_among g ps r n q e s =
    let lt = rw e at s.2 in
    let here = rw e at s.3 in
    of_rule_from_test (slice_get g.productions q) r
    (rw (← here) (range_passes (λ q. is_of_rule (slice_get g.productions q) r) 0 (length g.productions) s.0 lt))

-- the first of a list, and the next one
pub among_next : (n : ℕ) (ps : List ℕ) (p q : ℕ) → get_or ps n 0 ≡ p → IsAmongFirst (n + 1) ps q → IsAmongFirst n ps q ⊎ (q ≡ p)
among_next n ps p q e s =
    ⊎_elim (λ (x : s.0 ≡ n). inr (sym s.3 ∙ rw x e)) (λ (x : s.0 ≢ n). let lt : s.0 < n = omega (arith, s.1, x) in inl (s.0, lt, s.2, s.3)) (cases_eq s.0 n)

pub among_more : (n : ℕ) (ps : List ℕ) (q : ℕ) → IsAmongFirst n ps q → IsAmongFirst (n + 1) ps q
among_more n ps q s = let lt : s.0 < n + 1 = omega (arith, s.1) in (s.0, lt, s.2, s.3)

pub among_here : (n : ℕ) (ps : List ℕ) (p q : ℕ) → n < length ps → get_or ps n 0 ≡ p → q ≡ p → IsAmongFirst (n + 1) ps q
among_here n ps p q l e h = let lt : n < n + 1 = omega arith in (n, lt, l, e ∙ sym h)

pub among_none : (ps : List ℕ) (q : ℕ) → IsAmongFirst 0 ps q → ⊥
among_none ps q s = let n : s.0 < 0 = s.1 in absurd (omega (arith, n))

-- the number at a place of a list of numbers
pub number_at : {X : Type 0} (f : X → ℕ) (xs : List X) (i : ℕ) (x : X) → i < length xs → x ≡ get_or xs i x → get_or (map f xs) i 0 ≡ f x
number_at f xs i x h e = get_or-map f xs i x 0 h ∙ ap f (sym e)

pub below_mapped : {X : Type 0} (f : X → ℕ) (xs : List X) (i : ℕ) → i < length xs → i < length (map f xs)
below_mapped f xs i h = rw length-map h

pub end_mapped : {X : Type 0} (f : X → ℕ) (xs : List X) (i : ℕ) → length xs ≤ i → length (map f xs) ≤ i
end_mapped f xs i h = rw length-map h

-- what is listed at a place of the code's list is a production of the rule
pub is_listed :
    {T : Type 0} (number : T → ℕ) (g : Grammar) (xs : List (PIdx T)) (r i : ℕ) (x : PIdx T) → map (λ p. number p.0) xs ≡ productions_of g r → i < length xs
    → x ≡ get_or xs i x → IsProductionOf g (number x.0) r
is_listed number g xs r i x e l s =
    production_among g (map (λ p. number p.0) xs) r (i + 1) (number x.0) e
    (among_here i (map (λ p. number p.0) xs) (number x.0) (number x.0) (below_mapped (λ p. number p.0) xs i l) (number_at (λ p. number p.0) xs i x l s) refl)

pub listed_below :
    {T : Type 0} (number : T → ℕ) (g : Grammar) (xs : List (PIdx T)) (r i : ℕ) (x : PIdx T) → map (λ p. number p.0) xs ≡ productions_of g r → i < length xs
    → x ≡ get_or xs i x → number x.0 < length g.productions
listed_below number g xs r i x e l s = below_of_production g (number x.0) r (is_listed number g xs r i x e l s)
