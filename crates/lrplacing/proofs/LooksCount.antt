-- how often an item set looks: at most once for each item and token of the grammar, and more often where it gains
use Rattle.std.proofs.Common.{◌≡◌, ℕ, zero, suc, ◌+◌, ◌*◌, ◌<◌, ◌≤◌, Bool, true, false, List, [], ◌∷◌, map, length, Option, None, Some, refl, ◌∙◌, ap, arith, inl, inr}
use Rattle.std.specs.Prelude.{slice_get, slice_index_or, IsTrue}
use Rattle.std.specs.List.{range_with_len}
use Rattle.std.specs.Option.{IsSomeAnd}
use Rattle.std.proofs.lemmas.List.Sums.{count_by-le-length, sum_by-le-sum_by}
use Rattle.std.proofs.lemmas.List.Concat.{length-flat_map}
use Rattle.std.proofs.lemmas.Bool.{cases_eq}
use Rattle.std.proofs.lemmas.List.FromFn.{length-range_with_len, length-map-range_with_len}
use Rattle.lrspec.specs.grammars.Grammar.{Grammar, Production, token_count, body_or_none, body_of, item_count}
use Rattle.lrspec.specs.grammars.ItemSets.{Items, item_at, LooksIn, Fits}
use Rattle.lrspec.proofs.grammars.ListMembers.{Among}
use Rattle.lrspec.proofs.grammars.ListMembers.{among_flat_map, among_below}
use Rattle.lrplacing.specs.Construction.{Gains}
use Rattle.lrspec.specs.tables.Table.{bit_or_none, looks_at}
use Rattle.lrplacing.specs.Counts.{items_of_production, grammar_items, item_looks, looks_count}
use Rattle.lrplacing.proofs.SumFacts.{sum_most, sum_larger, count_le, count_more, sum_by_places}

-- the grammar has as many items as it counts
pub grammar_items_count : (g : Grammar) → length (grammar_items g) ≡ item_count g
unfolding grammar_items
grammar_items_count g =
    length-flat_map (items_of_production g) (range_with_len 0 (length g.productions))
    ∙ sum_by_places (λ p. length p.body + 1) (λ p. length (items_of_production g p)) 0 g.productions
    (λ k p e. length-map-range_with_len (λ d. (0 + k, d)) 0 (length (body_of g (0 + k)) + 1) ∙ at_place k p e)
  where
    at_place : (k : ℕ) (p : Production) → slice_get g.productions k ≡ Some p → length (body_of g (0 + k)) + 1 ≡ length p.body + 1
    at_place k p e =
        let shifted : 0 + k ≡ k = omega arith in
        ap (λ j. length (body_of g j) + 1) shifted ∙ ap (λ o. length (body_or_none o) + 1) e

-- a bit that is set is one of the bits
set_within : (v : List Bool) (t : ℕ) → slice_index_or v t false ≡ true → t < length v
set_within [] t e = cc
set_within (b ∷ v) zero e = omega arith
set_within (b ∷ v) (suc t) e = omega (arith, set_within v t e)

among_map_range : (p a n d : ℕ) → a ≤ d → d < a + n → Among {X = ℕ × ℕ} (p, d) (map (λ e. (p, e)) (range_with_len a n))
among_map_range p a zero d l b = absurd (omega arith)
among_map_range p a (suc n) d l b = elim (cases_eq d a) [ inl e ↦ inl (rw e refl) | inr m ↦ inr (among_map_range p (a + 1) n d (omega arith) (omega arith)) ]

-- and each item that exists in it is one of them
pub grammar_item_listed : (g : Grammar) (p d : ℕ) → p < length g.productions → d ≤ length (body_of g p) → Among {X = ℕ × ℕ} (p, d) (grammar_items g)
unfolding grammar_items
grammar_item_listed g p d l m =
    among_flat_map (items_of_production g) (p, d) p (range_with_len 0 (length g.productions)) (among_below (length g.productions) p l)
    (among_map_range p 0 (length (body_of g p) + 1) d (omega arith) (omega arith))

item_looks_most : (g : Grammar) (a : Items) (i : ℕ × ℕ) → item_looks g a i ≤ token_count g
unfolding item_looks
item_looks_most g a i =
    omega (arith, count_by-le-length (looks_at a i.0 i.1) (range_with_len 0 (token_count g)), length-range_with_len 0 (token_count g))

-- an item set looks at most once for each item of the grammar and each token
pub looks_count_most : (g : Grammar) (a : Items) → looks_count g a ≤ item_count g * token_count g
unfolding looks_count
looks_count_most g a =
    rw (grammar_items_count g) at (sum_most (item_looks g a) (token_count g) (grammar_items g) (item_looks_most g a))

looks_of_bit : (o : Option (List Bool)) (t : ℕ) → bit_or_none o t ≡ true → IsSomeAnd o (λ v. IsTrue (slice_index_or v t false))
looks_of_bit None t e = cc
looks_of_bit (Some v) t e = e

bit_of_looks : (o : Option (List Bool)) (t : ℕ) → IsSomeAnd o (λ v. IsTrue (slice_index_or v t false)) → bit_or_none o t ≡ true
bit_of_looks None t h = absurd h
bit_of_looks (Some v) t h = h

no_bit : (b : Bool) → (b ≡ true → ⊥) → b ≡ false
no_bit true h = absurd (h refl)
no_bit false h = refl

module _ (g : Grammar) (a b : Items) (grows : (p d t : ℕ) → LooksIn a p d t → LooksIn b p d t) where
  bit_stays : (p d t : ℕ) → looks_at a p d t ≡ true → looks_at b p d t ≡ true
  bit_stays p d t e = bit_of_looks (item_at b p d) t (grows p d t (looks_of_bit (item_at a p d) t e))

  item_looks_le : (i : ℕ × ℕ) → item_looks g a i ≤ item_looks g b i
  unfolding item_looks
  item_looks_le i = count_le (looks_at a i.0 i.1) (looks_at b i.0 i.1) (range_with_len 0 (token_count g)) (bit_stays i.0 i.1)

  -- an item set that looks where another does looks no less often
  pub looks_count_le : looks_count g a ≤ looks_count g b
  unfolding looks_count
  looks_count_le = sum_by-le-sum_by (item_looks g a) (item_looks g b) (grammar_items g) item_looks_le

  item_gains : (p d t : ℕ) → t < token_count g → LooksIn b p d t → (LooksIn a p d t → ⊥) → item_looks g a (p, d) < item_looks g b (p, d)
  unfolding item_looks
  item_gains p d t l now before =
      count_more (looks_at a p d) (looks_at b p d) t (range_with_len 0 (token_count g)) (among_below (token_count g) t l) (bit_stays p d)
      (no_bit (looks_at a p d t) (λ e. before (looks_of_bit (item_at a p d) t e))) (bit_of_looks (item_at b p d) t now)

  -- and more often where it gains a token of the grammar at an item of the grammar
  pub looks_count_gains :
      (n : Gains a b) → n.p < length g.productions → n.d ≤ length (body_of g n.p) → n.t < token_count g → looks_count g a < looks_count g b
  unfolding looks_count
  looks_count_gains n l m k =
      sum_larger (item_looks g a) (item_looks g b) (n.p, n.d) (grammar_items g) (grammar_item_listed g n.p n.d l m) item_looks_le
      (item_gains n.p n.d n.t k n.now n.before)

look_found : (o : Option (List Bool)) (t : ℕ) → IsSomeAnd o (λ v. IsTrue (slice_index_or v t false)) → (v : List Bool) × (o ≡ Some v) × (t < length v)
look_found None t h = absurd h
look_found (Some v) t h = (v, refl, set_within v t h)

-- where an item set that fits the grammar looks, item and token are the grammar's
pub look_fits :
    {g : Grammar} (a : Items) (p d t : ℕ) → Fits g a → LooksIn a p d t
    → (p < length g.productions) × (d ≤ length (body_of g p)) × (t < token_count g)
look_fits a p d t fits l =
    let (v, e, b) = look_found (item_at a p d) t l in
    let item = fits p d v e in
    (item.production, item.dot, omega (arith, b, item.bits))
