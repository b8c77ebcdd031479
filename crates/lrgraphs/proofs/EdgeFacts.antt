-- looking an edge up in a map by its symbol, and by the number of that symbol
use Rattle.std.proofs.Common.{◌≡◌, ℕ, Bool, true, false, cond, List, [], ◌∷◌, Option, None, Some, refl, sym, ap, ◌∙◌, arith}
use Rattle.std.specs.Prelude.{◌==◌, if◌then◌else◌, option_map}
use Rattle.std.specs.declared.cmp.Ordering.{Ordering}
use Rattle.std.specs.declared.cmp.Ordering.TheVariants.{Less, Greater}
use Rattle.std.specs.Ordering.{is_eq, nat_cmp}
use Rattle.std.specs.Map.{lookup}
use Rattle.std.specs.BTreeMap.{is_at}
use Rattle.std.proofs.lemmas.Bool.Decides.{nat_tests}
use Rattle.lrgrammar.specs.declared.idx.RIdx.{RIdx}
use Rattle.lrgrammar.specs.declared.idx.TIdx.{TIdx}
use Rattle.lrgrammar.specs.declared.idx.Symbol.{Symbol}
use Rattle.lrgrammar.specs.declared.idx.Symbol.TheVariants as code
use Rattle.lrgrammar.specs.Symbols.{symbol_of}
use Rattle.lrgrammar.specs.SymbolLaws.{symbol_cmp}
use Rattle.lrspec.specs.grammars.Grammar as math
use Rattle.lrspec.specs.merging.Graph.{same_symbol, edge_at}
use Rattle.lrgraphs.specs.GraphOf.{edges_of}

cmp_eq : (m n : ℕ) → is_eq (nat_cmp m n) ≡ (m == n)
cmp_eq m n = grind (arith, nat_tests)

same_number : (p q : ℕ) → (p == q) ≡ true → p ≡ q
same_number p q h = grind (arith, nat_tests)

-- symbols that pass the test are the same
pub symbol_from_test : (x y : math.Symbol) → same_symbol x y ≡ true → x ≡ y
symbol_from_test (math.Symbol.Rule r) (math.Symbol.Rule s) h = ap (λ n. math.Symbol.Rule n) (same_number r s h)
symbol_from_test (math.Symbol.Rule r) (math.Symbol.Token t) h = cc
symbol_from_test (math.Symbol.Token t) (math.Symbol.Rule s) h = cc
symbol_from_test (math.Symbol.Token t) (math.Symbol.Token u) h = ap (λ n. math.Symbol.Token n) (same_number t u h)

-- a symbol passes the test with itself
pub test_from_symbol : (x : math.Symbol) → same_symbol x x ≡ true
test_from_symbol (math.Symbol.Rule r) = grind (arith, nat_tests)
test_from_symbol (math.Symbol.Token t) = grind (arith, nat_tests)

module _ {T : Type 0} (number : T → ℕ) where
  pub by_numbers : (a b : Symbol T) → is_eq (symbol_cmp number a b) ≡ same_symbol (symbol_of number a) (symbol_of number b)
  by_numbers (code.Rule r) (code.Rule s) = cmp_eq (number r.0) (number s.0)
  by_numbers (code.Rule r) (code.Token t) = refl
  by_numbers (code.Token t) (code.Rule s) = refl
  by_numbers (code.Token t) (code.Token u) = cmp_eq (number t.0) (number u.0)

module _ {T : Type 0} (number : T → ℕ) (cmp : Symbol T → Symbol T → Ordering) (ordered : (a b : Symbol T) → cmp a b ≡ symbol_cmp number a b) where
  agrees : (a b : Symbol T) → is_eq (cmp a b) ≡ same_symbol (symbol_of number a) (symbol_of number b)
  agrees a b = rw (ordered a b) (by_numbers number a b)

-- the order of the two makes no difference to the test
pub swap : (x y : math.Symbol) → same_symbol x y ≡ same_symbol y x
swap (math.Symbol.Rule r) (math.Symbol.Rule s) = grind (arith, nat_tests)
swap (math.Symbol.Rule r) (math.Symbol.Token t) = refl
swap (math.Symbol.Token t) (math.Symbol.Rule s) = refl
swap (math.Symbol.Token t) (math.Symbol.Token v) = grind (arith, nat_tests)

map_cond : {X : Type 0} (state : X → ℕ) (b : Bool) (x : X) (o : Option X) → option_map state (cond b (Some x) o) ≡ cond b (Some (state x)) (option_map state o)
map_cond state true x o = refl
map_cond state false x o = refl

module _
    {T X : Type 0} (number : T → ℕ) (state : X → ℕ) (cmp : Symbol T → Symbol T → Ordering)
    (ordered : (a b : Symbol T) → cmp a b ≡ symbol_cmp number a b)
  where
    -- a map finds by the number of the symbol
    pub edge_here : (es : List (Symbol T × X)) (k : Symbol T) → option_map state (lookup (is_at (cmp k)) es) ≡ edge_at (edges_of number state es) (symbol_of number k)
    edge_here [] k = refl
    edge_here (e ∷ es) k = rw (agrees number cmp ordered k e.0, map_cond state (same_symbol (symbol_of number k) (symbol_of number e.0)) e.1 (lookup (is_at (cmp k)) es), edge_here es k) refl

    -- an edge that is there has a key
    pub key_at : (es : List (Symbol T × X)) (y : math.Symbol) (n : ℕ) → edge_at (edges_of number state es) y ≡ Some n → (q : Symbol T) × (symbol_of number q ≡ y)
    key_at [] y n h = cc
    key_at (e ∷ es) y n h = go (same_symbol y (symbol_of number e.0)) refl (key_at es y n) h
      where
        go :
            (b : Bool) → same_symbol y (symbol_of number e.0) ≡ b
            → (edge_at (edges_of number state es) y ≡ Some n → (q : Symbol T) × (symbol_of number q ≡ y))
            → cond b (Some (state e.1)) (edge_at (edges_of number state es) y) ≡ Some n → (q : Symbol T) × (symbol_of number q ≡ y)
        go true i r k = (e.0, sym (symbol_from_test y (symbol_of number e.0) i))
        go false i r k = r k

    -- an update at a key sets the edge on its symbol, and no other
    module _
        (es fs : List (Symbol T × X)) (k : Symbol T) (w : X)
        (u : (q : Symbol T) → lookup (is_at (cmp q)) fs ≡ cond (is_at (cmp k) q) (Some w) (lookup (is_at (cmp q)) es))
      where
        at_key :
            (q : Symbol T) (y : math.Symbol) → symbol_of number q ≡ y
            → edge_at (edges_of number state fs) y ≡ cond (same_symbol (symbol_of number k) y) (Some (state w)) (edge_at (edges_of number state es) y)
        at_key q y i =
            rw (← i, ← edge_here fs q, ← edge_here es q)
            (ap (option_map state) (u q ∙ rw (agrees number cmp ordered k q) refl) ∙ map_cond state (same_symbol (symbol_of number k) (symbol_of number q)) w (lookup (is_at (cmp q)) es))

        pub edge_updated :
            (y : math.Symbol)
            → edge_at (edges_of number state fs) y
            ≡ if same_symbol y (symbol_of number k) then Some (state w) else edge_at (edges_of number state es) y
        edge_updated y =
            rw (swap y (symbol_of number k))
            (go (edge_at (edges_of number state fs) y) (edge_at (edges_of number state es) y) (same_symbol (symbol_of number k) y) refl refl refl)
          where
            go :
                (a b : Option ℕ) (t : Bool) → edge_at (edges_of number state fs) y ≡ a → edge_at (edges_of number state es) y ≡ b
                → same_symbol (symbol_of number k) y ≡ t
                → edge_at (edges_of number state fs) y ≡ cond (same_symbol (symbol_of number k) y) (Some (state w)) (edge_at (edges_of number state es) y)
            go (Some a) b t h i j = let q = key_at fs y a h in at_key q.0 y q.1
            go None (Some b) t h i j = let q = key_at es y b i in at_key q.0 y q.1
            go None None true h i j = at_key k y (symbol_from_test (symbol_of number k) y j)
            go None None false h i j = h ∙ sym (rw (j, i) refl)

-- symbols are compared by kind and then by number
pub by_kinds :
    {T : Type 0} (number : T → ℕ) (cmp : Symbol T → Symbol T → Ordering)
    → ((r s : RIdx T) → cmp (code.Rule r) (code.Rule s) ≡ nat_cmp (number r.0) (number s.0)) → ((r : RIdx T) (t : TIdx T) → cmp (code.Rule r) (code.Token t) ≡ Less)
    → ((t : TIdx T) (r : RIdx T) → cmp (code.Token t) (code.Rule r) ≡ Greater)
    → ((t u : TIdx T) → cmp (code.Token t) (code.Token u) ≡ nat_cmp (number t.0) (number u.0)) → (a b : Symbol T) → cmp a b ≡ symbol_cmp number a b
by_kinds number cmp rr rt tr tt (code.Rule r) (code.Rule s) = rr r s
by_kinds number cmp rr rt tr tt (code.Rule r) (code.Token t) = rt r t
by_kinds number cmp rr rt tr tt (code.Token t) (code.Rule r) = tr t r
by_kinds number cmp rr rt tr tt (code.Token t) (code.Token u) = tt t u
