-- a test whether each item of an item set comes from a core, alone or by one step, so that the item set is the core's closure
use Rattle.std.proofs.Common.{◌≡◌, ℕ, Bool, true, false, ◌&&◌, ◌||◌, List, [], ◌∷◌, Option, None, Some, refl, inl, inr}
use Rattle.std.specs.Prelude.{◌==◌, slice_get, slice_index_or}
use Rattle.std.specs.List.{list_all, list_any}
use Rattle.std.proofs.lemmas.Bool.{and_parts, or_cases, eqb-true}
use Rattle.lrspec.specs.grammars.Grammar.{Symbol, Rule, Token, Grammar, is_of_rule, IsProductionOf, rest}
use Rattle.lrspec.specs.grammars.First as first
use Rattle.lrspec.specs.grammars.ItemSets as set
use Rattle.lrspec.specs.grammars.ItemSets.{Items, item_at, HasItem, LooksIn, ClosedItem, ClosedLook, IsClosure}
use Rattle.lrspec.proofs.grammars.Closures.{closure_made}
use Rattle.lrspec.proofs.examples.ItemEntries.{all_among}
use Rattle.lrspec.proofs.examples.ItemSetEntries.{item_listed, look_listed}
use Rattle.lrspec.proofs.examples.ClosuresByComputing.{within, within_at, single, single_at, has_bits, some_of_bits, bit_of_bits, is_contained, contained_from_test, of_rule_from_test, is_closed, closed_from_test}

-- where some element passes a test, there is one
some_among : {X : Type 0} (f : X → Bool) (xs : List X) → list_any f xs ≡ true → (x : X) × (f x ≡ true)
some_among f [] e = absurd cc
some_among f (x ∷ xs) e = elim (or_cases (f x) (list_any f xs) e) [ inl i ↦ (x, i) | inr i ↦ some_among f xs i ]

module _ (g : Grammar) (a c : Items) where
  -- whether an item with these bits, and this rest behind a rule, gives all of the others
  abbrev pub gives : List Symbol → List Bool → List Bool → Bool
  gives [] v u = within u v
  gives (Token t ∷ y) v u = within u (single t)
  gives (Rule r ∷ y) v u = false

  -- whether what is listed, with this rest, gives the production these bits
  abbrev pub derives : Option (List Bool) → List Symbol → ℕ → List Bool → Bool
  derives None y q u = false
  derives (Some v) [] q u = false
  derives (Some v) (Token t ∷ y) q u = false
  derives (Some v) (Rule r ∷ y) q u = is_of_rule (slice_get g.productions q) r && gives y v u

  -- whether the item of the core does
  abbrev pub derives_from : ℕ → List Bool → (ℕ × ℕ) × List Bool → Bool
  derives_from q u f = derives (item_at a f.0.0 f.0.1) (rest g f.0.0 f.0.1) q u

  -- whether an item with its bits is one of the core, or comes from one
  abbrev pub comes : (ℕ × ℕ) × List Bool → Bool
  comes e = has_bits (item_at a e.0.0 e.0.1) e.1 || ((e.0.1 == 0) && list_any (derives_from e.0.0 e.1) a)

  -- whether the item set is the closure of the core
  abbrev pub is_closure : Bool
  is_closure = is_contained a c && (is_closed g c && list_all comes c)

  -- an item of the core before a rule of the production, which gives it these bits
  record Source (q : ℕ) (u : List Bool) : Type 0 where
    p : ℕ
    d : ℕ
    r : ℕ
    y : List Symbol
    v : List Bool
    is : item_at a p d ≡ Some v
    before : rest g p d ≡ Rule r ∷ y
    of : IsProductionOf g q r
    given : gives y v u ≡ true

  source :
      (q : ℕ) (u : List Bool) (p d : ℕ) (o : Option (List Bool)) (z : List Symbol) → item_at a p d ≡ o → rest g p d ≡ z
      → derives o z q u ≡ true → Source q u
  source q u p d None z i e k = absurd cc
  source q u p d (Some v) [] i e k = absurd cc
  source q u p d (Some v) (Token t ∷ y) i e k = absurd cc
  source q u p d (Some v) (Rule r ∷ y) i e k =
      let (m, n) = and_parts (is_of_rule (slice_get g.productions q) r) (gives y v u) k in
      record { p = p; d = d; r = r; y = y; v = v; is = i; before = e; of = of_rule_from_test (slice_get g.productions q) r m; given = n }

  source_from_test : (q : ℕ) (u : List Bool) → list_any (derives_from q u) a ≡ true → Source q u
  source_from_test q u e =
      let (f, k) = some_among (derives_from q u) a e in
      source q u f.0.0 f.0.1 (item_at a f.0.0 f.0.1) (rest g f.0.0 f.0.1) refl refl k

  source_item : (q : ℕ) (u : List Bool) (s : Source q u) → HasItem a s.p s.d
  source_item q u s = rw s.is refl

  source_look : (q : ℕ) (u : List Bool) (s : Source q u) (t : ℕ) → slice_index_or s.v t false ≡ true → LooksIn a s.p s.d t
  source_look q u s t k = rw s.is k

  look_by :
      (q : ℕ) (u : List Bool) (t : ℕ) (s : Source q u) (y : List Symbol) → s.y ≡ y → slice_index_or u t false ≡ true
      → ClosedLook g (HasItem a) (LooksIn a) q 0 t
  look_by q u t s [] e k =
      let given : gives [] s.v u ≡ true = rw e at s.given in
      let before : rest g s.p s.d ≡ Rule s.r ∷ [] = rw e at s.before in
      set.ClosedLook.inherit (set.ClosedLook.core (source_look q u s t (within_at u s.v t given k))) before s.of first.AllNullable.none
  look_by q u t s (Token x ∷ y) e k =
      let given : gives (Token x ∷ y) s.v u ≡ true = rw e at s.given in
      let before : rest g s.p s.d ≡ Rule s.r ∷ Token x ∷ y = rw e at s.before in
      let same : t ≡ x = single_at x t (within_at u (single x) t given k) in
      rw same (set.ClosedLook.begins (set.ClosedItem.core (source_item q u s)) before s.of first.Begins.here)
  look_by q u t s (Rule x ∷ y) e k = let given : gives (Rule x ∷ y) s.v u ≡ true = rw e at s.given in absurd cc

  item_comes : (q e : ℕ) (u : List Bool) → comes ((q, e), u) ≡ true → ClosedItem g (HasItem a) q e
  item_comes q e u k = elim (or_cases (has_bits (item_at a q e) u) ((e == 0) && list_any (derives_from q u) a) k) [
    | inl i ↦ set.ClosedItem.core (some_of_bits (item_at a q e) u i)
    | inr i ↦
        let (z, j) = and_parts (e == 0) (list_any (derives_from q u) a) i in
        let s = source_from_test q u j in
        let zero_is : e ≡ 0 = eqb-true e 0 z in
        rw zero_is (set.ClosedItem.expand (set.ClosedItem.core (source_item q u s)) s.before s.of)
  ]

  look_comes :
      (q e t : ℕ) (u : List Bool) → comes ((q, e), u) ≡ true → slice_index_or u t false ≡ true
      → ClosedLook g (HasItem a) (LooksIn a) q e t
  look_comes q e t u k l = elim (or_cases (has_bits (item_at a q e) u) ((e == 0) && list_any (derives_from q u) a) k) [
    | inl i ↦ set.ClosedLook.core (bit_of_bits (item_at a q e) u t i l)
    | inr i ↦
        let (z, j) = and_parts (e == 0) (list_any (derives_from q u) a) i in
        let s = source_from_test q u j in
        let zero_is : e ≡ 0 = eqb-true e 0 z in
        rw zero_is (look_by q u t s s.y refl l)
  ]

  pub closure_from_test : is_closure ≡ true → IsClosure g a c
  closure_from_test test =
      let (i, j) = and_parts (is_contained a c) (is_closed g c && list_all comes c) test in
      let (k, l) = and_parts (is_closed g c) (list_all comes c) j in
      closure_made (contained_from_test a c i) (closed_from_test g c k)
      (λ p d h. let (v, m) = item_listed c p d h in item_comes p d v (all_among comes ((p, d), v) c l m))
      (λ p d t h. let (v, m, n) = look_listed c p d t h in look_comes p d t v (all_among comes ((p, d), v) c l m) n)
