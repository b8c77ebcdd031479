-- entries: items after lists, written down with the tokens at which they look
use Rattle.std.proofs.Common.{◌≡◌, ℕ, Bool, true, false, cond, not, ◌&&◌, ◌||◌, List, [], ◌∷◌, ◌++◌, length, refl, sym, ap, Option, None, Some, ◌⊎◌, inl, inr, arith, length-append}
use Rattle.std.specs.Prelude.{◌==◌, nat_le}
use Rattle.std.specs.List.{list_all, list_any}
use Rattle.std.proofs.lemmas.Bool.{and_parts, eqb-true, eq-eqb, le-leb, leb-true}
use Rattle.lrspec.specs.grammars.Grammar.{Symbol, Rule, Token, Production, IsOfRule, is_of_rule}
use Rattle.lrspec.specs.merging.Graph.{same_symbol}
use Rattle.lrspec.proofs.grammars.ListMembers.{Among, among_from_test}

-- what a test passes on a whole list it passes on each element
pub all_among : {X : Type 0} (f : X → Bool) (x : X) (xs : List X) → list_all f xs ≡ true → Among x xs → f x ≡ true
all_among f x [] e h = absurd h
all_among f x (y ∷ ys) e (inl i) = rw i (and_parts (f y) (list_all f ys) e).0
all_among f x (y ∷ ys) e (inr h) = all_among f x ys (and_parts (f y) (list_all f ys) e).1 h

-- whether two lists of symbols are the same
abbrev pub same_list : List Symbol → List Symbol → Bool
same_list [] [] = true
same_list [] (y ∷ ys) = false
same_list (x ∷ xs) [] = false
same_list (x ∷ xs) (y ∷ ys) = same_symbol x y && same_list xs ys

symbol_from_same : (x y : Symbol) → same_symbol x y ≡ true → x ≡ y
symbol_from_same (Rule r) (Rule s) e = ap Rule (eqb-true r s e)
symbol_from_same (Rule r) (Token t) e = cc
symbol_from_same (Token t) (Rule s) e = cc
symbol_from_same (Token t) (Token u) e = ap Token (eqb-true t u e)

pub list_from_same : (xs ys : List Symbol) → same_list xs ys ≡ true → xs ≡ ys
list_from_same [] [] e = refl
list_from_same [] (y ∷ ys) e = cc
list_from_same (x ∷ xs) [] e = cc
list_from_same (x ∷ xs) (y ∷ ys) e =
    let (i, j) = and_parts (same_symbol x y) (same_list xs ys) e in
    let first : x ≡ y = symbol_from_same x y i in
    let others : xs ≡ ys = list_from_same xs ys j in
    cc

-- an item after a list, with the tokens at which it looks there
abbrev pub Entry : Type 0
Entry = List Symbol × ℕ × ℕ × List ℕ

-- the tokens listed for the item after the list, if it is listed
abbrev pub tokens_at : List Entry → List Symbol → ℕ → ℕ → Option (List ℕ)
tokens_at [] w p d = None
tokens_at (e ∷ es) w p d = cond (same_list e.0 w && ((e.1 == p) && (e.2 == d))) (Some e.3) (tokens_at es w p d)

same_entry : (e f : Entry) → e.0 ≡ f.0 → e.1 ≡ f.1 → e.2 ≡ f.2 → e.3 ≡ f.3 → e ≡ f
same_entry (v, q, c, us) (w, p, d, ts) i j k l = rw (i, j, k, l) refl

found_by :
    (e : Entry) (es : List Entry) (w : List Symbol) (p d : ℕ) (ts : List ℕ) (b : Bool) → (same_list e.0 w && ((e.1 == p) && (e.2 == d))) ≡ b
    → cond b (Some e.3) (tokens_at es w p d) ≡ Some ts → (e ≡ (w, p, d, ts)) ⊎ (tokens_at es w p d ≡ Some ts)
found_by e es w p d ts false k h = inr h
found_by e es w p d ts true k h =
    let (i, j) = and_parts (same_list e.0 w) ((e.1 == p) && (e.2 == d)) k in
    let (m, n) = and_parts (e.1 == p) (e.2 == d) j in
    inl (same_entry e (w, p, d, ts) (list_from_same e.0 w i) (eqb-true e.1 p m) (eqb-true e.2 d n) cc)

-- what is found is an entry
pub entry_found : (es : List Entry) (w : List Symbol) (p d : ℕ) (ts : List ℕ) → tokens_at es w p d ≡ Some ts → Among (w, p, d, ts) es
entry_found [] w p d ts e = cc
entry_found (e ∷ es) w p d ts h =
    elim (found_by e es w p d ts (same_list e.0 w && ((e.1 == p) && (e.2 == d))) refl h) [ inl i ↦ inl (sym i) | inr i ↦ inr (entry_found es w p d ts i) ]

-- whether each of the tokens is listed
abbrev pub covers : Option (List ℕ) → List ℕ → Bool
covers None ts = false
covers (Some us) ts = list_all (λ t. list_any (λ u. u == t) us) ts

pub covered : (us ts : List ℕ) (t : ℕ) → covers (Some us) ts ≡ true → Among t ts → Among t us
covered us ts t e h = among_from_test t us (all_among (λ t. list_any (λ u. u == t) us) t ts e h)

pub found_among : (o : Option (List ℕ)) (ts : List ℕ) (t : ℕ) → covers o ts ≡ true → Among t ts → (us : List ℕ) × (o ≡ Some us) × Among t us
found_among None ts t e h = cc
found_among (Some us) ts t e h = (us, refl, covered us ts t e h)

pub some_from_covers : (o : Option (List ℕ)) (ts : List ℕ) → covers o ts ≡ true → (us : List ℕ) × (o ≡ Some us)
some_from_covers None ts e = cc
some_from_covers (Some us) ts e = (us, refl)

-- the test of the rule answers true where it is that rule
pub rule_test : (o : Option Production) (r : ℕ) → IsOfRule o r → is_of_rule o r ≡ true
rule_test None r h = absurd h
rule_test (Some p) r h = eq-eqb p.rule r h

-- what an implication by tests tells
pub implied : (a b : Bool) → (not a || b) ≡ true → a ≡ true → b ≡ true
implied true b e h = e
implied false b e h = cc

-- whether the list is one of those that are asked for: all, or those of so many symbols at most
abbrev pub is_asked : Option ℕ → List Symbol → Bool
is_asked None w = true
is_asked (Some n) w = nat_le (length w) n

-- with a list each beginning of it is asked for
pub asked_before : (most : Option ℕ) (w : List Symbol) (x : Symbol) → is_asked most (w ++ x ∷ []) ≡ true → is_asked most w ≡ true
asked_before None w x a = refl
asked_before (Some n) w x a = le-leb (length w) n (omega (arith, leb-true (length (w ++ x ∷ [])) n a, length-append w (x ∷ [])))
