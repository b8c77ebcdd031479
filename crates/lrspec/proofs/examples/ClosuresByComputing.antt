-- tests whether an item set is the closure of another, where behind a rule stands nothing or a token, and where the core's
-- items alone put others in
use Rattle.std.proofs.Common.{◌≡◌, ℕ, zero, suc, Bool, true, false, not, ◌&&◌, ◌||◌, List, [], ◌∷◌, length, Option, None, Some, refl, ap, IsTrue}
use Rattle.std.specs.Prelude.{slice_get, slice_index_or}
use Rattle.std.specs.Option.{IsSome, IsSomeAnd}
use Rattle.std.specs.List.{list_all, range_with_len}
use Rattle.std.proofs.lemmas.Bool.{and_parts, eqb-true}
use Rattle.lrspec.specs.grammars.Grammar.{Symbol, Rule, Token, Production, Grammar, IsOfRule, is_of_rule, IsProductionOf, rest}
use Rattle.lrspec.specs.grammars.First as first
use Rattle.lrspec.specs.grammars.First.{AllNullable, Begins}
use Rattle.lrspec.specs.grammars.ItemSets.{Items, item_at, IsContained, IsClosed}
use Rattle.lrspec.proofs.grammars.ListMembers.{Among}
use Rattle.lrspec.proofs.grammars.BodyFacts.{below_of_production}
use Rattle.lrspec.proofs.grammars.ListMembers.{among_below}
use Rattle.lrspec.proofs.examples.ItemEntries.{all_among, rule_test, implied}
use Rattle.lrspec.proofs.examples.ItemSetEntries.{item_listed, look_listed}

-- whether each bit that is set in the one is set in the other
abbrev pub within : List Bool → List Bool → Bool
within [] u = true
within (a ∷ v) [] = not a && within v []
within (a ∷ v) (b ∷ u) = (not a || b) && within v u

pub within_at :
    (v u : List Bool) (t : ℕ) → within v u ≡ true → slice_index_or v t false ≡ true → slice_index_or u t false ≡ true
within_at [] u t e k = absurd cc
within_at (true ∷ v) [] t e k = absurd cc
within_at (false ∷ v) [] zero e k = absurd cc
within_at (false ∷ v) [] (suc t) e k = within_at v [] t e k
within_at (a ∷ v) (b ∷ u) zero e k = implied a b (and_parts (not a || b) (within v u) e).0 k
within_at (a ∷ v) (b ∷ u) (suc t) e k = within_at v u t (and_parts (not a || b) (within v u) e).1 k

-- one bit alone
abbrev pub single : ℕ → List Bool
single zero = true ∷ []
single (suc t) = false ∷ single t

pub single_at : (t s : ℕ) → slice_index_or (single t) s false ≡ true → s ≡ t
single_at zero zero e = refl
single_at zero (suc s) e = absurd cc
single_at (suc t) zero e = absurd cc
single_at (suc t) (suc s) e = ap suc (single_at t s e)

-- whether what is listed has these bits, if it is listed
abbrev pub has_bits : Option (List Bool) → List Bool → Bool
has_bits None v = false
has_bits (Some u) v = within v u

pub some_of_bits : (o : Option (List Bool)) (v : List Bool) → has_bits o v ≡ true → IsSome o
some_of_bits None v e = cc
some_of_bits (Some u) v e = refl

pub bit_of_bits :
    (o : Option (List Bool)) (v : List Bool) (t : ℕ) → has_bits o v ≡ true → slice_index_or v t false ≡ true
    → IsSomeAnd o (λ u. IsTrue (slice_index_or u t false))
bit_of_bits None v t e k = absurd cc
bit_of_bits (Some u) v t e k = within_at v u t e k

-- whether each item of the one is in the other, with its bits
abbrev pub is_contained : Items → Items → Bool
is_contained a c = list_all (λ e. has_bits (item_at c e.0.0 e.0.1) e.1) a

pub contained_from_test : (a c : Items) → is_contained a c ≡ true → IsContained a c
contained_from_test a c e = record {
  items = λ p d h. let (v, i) = item_listed a p d h in some_of_bits (item_at c p d) v (has p d v i);
  looks = λ p d t l. let (v, i, k) = look_listed a p d t l in bit_of_bits (item_at c p d) v t (has p d v i) k;
}
  where
    has : (p d : ℕ) (v : List Bool) → Among ((p, d), v) a → has_bits (item_at c p d) v ≡ true
    has p d v i = all_among (λ e. has_bits (item_at c e.0.0 e.0.1) e.1) ((p, d), v) a e i

-- the production is of the rule, where the test of it answers true
pub of_rule_from_test : (o : Option Production) (r : ℕ) → is_of_rule o r ≡ true → IsOfRule o r
of_rule_from_test None r e = absurd cc
of_rule_from_test (Some p) r e = eqb-true p.rule r e

module _ (g : Grammar) (c : Items) where
  -- whether what is listed has what an item with these bits and this rest behind a rule puts in
  abbrev pub puts : Option (List Bool) → List Symbol → List Bool → Bool
  puts o [] v = has_bits o v
  puts o (Token t ∷ y) v = has_bits o (single t)
  puts o (Rule r ∷ y) v = false

  puts_item : (o : Option (List Bool)) (y : List Symbol) (v : List Bool) → puts o y v ≡ true → IsSome o
  puts_item o [] v e = some_of_bits o v e
  puts_item o (Token t ∷ y) v e = some_of_bits o (single t) e
  puts_item o (Rule r ∷ y) v e = absurd cc

  abbrev HasBit : Option (List Bool) → ℕ → Type 0
  HasBit o t = IsSomeAnd o (λ u. IsTrue (slice_index_or u t false))

  single_itself : (t : ℕ) → slice_index_or (single t) t false ≡ true
  single_itself zero = refl
  single_itself (suc t) = single_itself t

  puts_begins : (o : Option (List Bool)) (v : List Bool) {y : List Symbol} {t : ℕ} → Begins g y t → puts o y v ≡ true → HasBit o t
  puts_begins o v (first.Begins.here {t = t} {y = y}) e = bit_of_bits o (single t) t e (single_itself t)
  puts_begins o v (first.Begins.inside p i b) e = absurd cc
  puts_begins o v (first.Begins.past n b) e = absurd cc

  puts_inherit :
      (o : Option (List Bool)) (v : List Bool) (t : ℕ) {y : List Symbol} → AllNullable g y → puts o y v ≡ true → slice_index_or v t false ≡ true
      → HasBit o t
  puts_inherit o v t first.AllNullable.none e k = bit_of_bits o v t e k
  puts_inherit o v t (first.AllNullable.more n m) e k = absurd cc

  -- whether the item set has what an item with these bits and this rest puts in
  abbrev pub puts_in : List Symbol → List Bool → Bool
  puts_in [] v = true
  puts_in (Token t ∷ y) v = true
  puts_in (Rule r ∷ y) v =
      list_all (λ q. not (is_of_rule (slice_get g.productions q) r) || puts (item_at c q 0) y v) (range_with_len 0 (length g.productions))

  -- whether it is closed
  abbrev pub is_closed : Bool
  is_closed = list_all (λ e. puts_in (rest g e.0.0 e.0.1) e.1) c

  put :
      is_closed ≡ true → (p d r q : ℕ) (y : List Symbol) (v : List Bool) → Among ((p, d), v) c → rest g p d ≡ Rule r ∷ y
      → IsProductionOf g q r → puts (item_at c q 0) y v ≡ true
  put test p d r q y v i e h =
      let all = all_among (λ e. puts_in (rest g e.0.0 e.0.1) e.1) ((p, d), v) c test i in
      let below = among_below (length g.productions) q (below_of_production g q r h) in
      let one =
      all_among (λ q. not (is_of_rule (slice_get g.productions q) r) || puts (item_at c q 0) y v) q (range_with_len 0 (length g.productions))
      (rw e at all) below in
      implied (is_of_rule (slice_get g.productions q) r) (puts (item_at c q 0) y v) one (rule_test (slice_get g.productions q) r h)

  pub closed_from_test : is_closed ≡ true → IsClosed g c
  closed_from_test test = record {
    items = λ p d r q y h e i. let (v, j) = item_listed c p d h in puts_item (item_at c q 0) y v (put test p d r q y v j e i);
    begins = λ p d r q t y h e i b. let (v, j) = item_listed c p d h in puts_begins (item_at c q 0) v b (put test p d r q y v j e i);
    inherit = λ p d r q t y l e i n. let (v, j, k) = look_listed c p d t l in puts_inherit (item_at c q 0) v t n (put test p d r q y v j e i) k;
  }
