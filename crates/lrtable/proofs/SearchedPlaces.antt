-- the place of a production among those of its rule, found by halving
use Rattle.std.proofs.Common.{◌≡◌, ◌≢◌, ◌++◌, append_assoc, ℕ, ◌+◌, ◌<◌, ◌≤◌, false, List, [], ◌∷◌, length, map, get_or, Some, Result, Ok, Err, refl, sym, ap, subst, ◌∙◌, ⊎_elim, arith}
use Rattle.std.specs.Prelude.{Contains, IsOk, codes, slice_get, ◌==◌}
use Rattle.std.specs.Cmp.{ranks}
use Rattle.std.specs.List.{position_or_len, range_with_len}
use Rattle.std.specs.List.Sorted.{IsBinarySearchResult, IsSearchInRange, IsNonDecreasingBy, IsStrictlyIncreasing}
use Rattle.std.specs.Ordering.{nat_cmp, ordering_index, MatchOrdering}
use Rattle.std.specs.declared.cmp.Ordering.{Ordering}
use Rattle.std.specs.declared.cmp.Ordering.TheVariants.{Less, Equal, Greater}
use Rattle.std.proofs.lemmas.Bool.{cases_eq, cases_lt, eq-eqb}
use Rattle.std.proofs.lemmas.Bool.Decides.{nat_tests}
use Rattle.std.proofs.lemmas.List.{get_or-map, get_or_default, length-map}
use Rattle.std.proofs.lemmas.List.FromFn.{length-range_with_len, get_or-range_with_len}
use Rattle.std.proofs.lemmas.List.Kept.{AllPairs-from_increasing, IsStrictlyIncreasing-filter}
use Rattle.std.proofs.lemmas.List.Sums.{position_or_len_is}
use Rattle.lrspec.specs.grammars.Grammar.{Grammar, IsProductionOf, is_of_rule, rule_of, productions_of}
use Rattle.lrspec.proofs.grammars.ListMembers.{contains_from_among, among_below, among_filter}
use Rattle.std.specs.Fmt.{decimal}
use Rattle.std.proofs.lemmas.Option.{get_or_from_slice_get}
use Rattle.lrspec.specs.texts.PrintedTexts.{rule_name}
use Rattle.lrspec.specs.texts.MachineLines.{place_in_rule, production_label}
use Rattle.lrspec.proofs.grammars.BodyFacts.{test_from_of_rule, rule_of_production}

-- ---- productions of a rule

-- a range goes upwards
range_upwards : (a n : ℕ) → IsStrictlyIncreasing (range_with_len a n)
range_upwards a n k l =
    let h : k + 1 < n = rw (length-range_with_len a n) at l in
    rw (get_or-range_with_len a n k 0 (omega arith), get_or-range_with_len a n (k + 1) 0 h) (omega arith)

-- so do the productions of a rule
pub productions_upwards : (g : Grammar) (r : ℕ) → IsStrictlyIncreasing (productions_of g r)
productions_upwards g r = IsStrictlyIncreasing-filter _ (range_with_len 0 (length g.productions)) (range_upwards 0 (length g.productions))

-- a production is among those of its rule
pub among_productions : (g : Grammar) (p r : ℕ) → p < length g.productions → IsProductionOf g p r → Contains (productions_of g r) p
among_productions g p r l h =
    contains_from_among p (productions_of g r)
    (among_filter (λ q. is_of_rule (slice_get g.productions q) r) p (range_with_len 0 (length g.productions)) (among_below (length g.productions) p l) (test_from_of_rule g p r h))

-- ---- searching

-- a number stands where it is in a list that goes upwards
place_is : (ns : List ℕ) (n i : ℕ) → IsStrictlyIncreasing ns → i < length ns → get_or ns i 0 ≡ n → position_or_len (λ q. q == n) ns ≡ i
place_is ns n i up l e =
    position_or_len_is (λ q. q == n) ns i 0 (omega arith)
    (λ k h. let below : get_or ns k 0 < get_or ns i 0 = AllPairs-from_increasing ns up k i 0 h l in differ (get_or ns k 0) (omega (arith, below, e)))
    (λ _. eq-eqb (get_or ns i 0) n e)
  where
    differ : (m : ℕ) → m < n → (m == n) ≡ false
    differ m h = grind (arith, nat_tests)

some_element : {X : Type 0} (xs : List X) (k : ℕ) → k < length xs → X
some_element [] k l = absurd (omega arith)
some_element (x ∷ xs) k l = x

module _ {X : Type 0} (ord : X → Ordering) (f : X → ℕ) (n : ℕ) (by : (y : X) → ord y ≡ nat_cmp (f y) n) where
  -- how an element stands to the number that is sought
  stands : (y : X) → MatchOrdering (ord y) (f y < n) (f y ≡ n) (n < f y)
  stands y = subst (λ o. MatchOrdering o (f y < n) (f y ≡ n) (n < f y)) (sym (by y)) (ranks (f y) n)

  less : (y : X) → ord y ≡ Less → f y < n
  less y e = subst (λ o. MatchOrdering o (f y < n) (f y ≡ n) (n < f y)) e (stands y)

  equal : (y : X) → ord y ≡ Equal → f y ≡ n
  equal y e = subst (λ o. MatchOrdering o (f y < n) (f y ≡ n) (n < f y)) e (stands y)

  greater : (y : X) → ord y ≡ Greater → n < f y
  greater y e = subst (λ o. MatchOrdering o (f y < n) (f y ≡ n) (n < f y)) e (stands y)

  index_up : (a b : ℕ) → a ≤ b → ordering_index (nat_cmp a n) ≤ ordering_index (nat_cmp b n)
  index_up a b h = grind (arith, nat_tests)

  module _ (xs : List X) (up : IsStrictlyIncreasing (map f xs)) where
    number_at : (k : ℕ) (d : X) → k < length xs → get_or (map f xs) k 0 ≡ f (get_or xs k d)
    number_at k d l = get_or-map f xs k d 0 l

    rises : (i j : ℕ) (d : X) → i ≤ j → j < length xs → f (get_or xs i d) ≤ f (get_or xs j d)
    rises i j d l h =
        ⊎_elim
        (λ (e : i ≡ j). omega (arith, ap (λ k. f (get_or xs k d)) e))
        (λ (e : i ≢ j). omega (arith, AllPairs-from_increasing (map f xs) up i j 0 (omega (arith, e)) (rw length-map h), number_at i d (omega arith), number_at j d h))
        (cases_eq i j)

    rising : IsNonDecreasingBy (λ y. ordering_index (ord y)) xs
    rising i j d l h = rw (by (get_or xs i d), by (get_or xs j d)) (index_up (f (get_or xs i d)) (f (get_or xs j d)) (rises i j d l h))

    number_here : (k : ℕ) (d : X) → k < length (map f xs) → get_or (map f xs) k n ≡ n → f (get_or xs k d) ≡ n
    number_here k d l e =
        let within : k < length xs = rw length-map at l in
        sym (number_at k d within) ∙ get_or_default (map f xs) k 0 n l ∙ e

    -- a search for a number that is there finds it
    pub found : (r : Result ℕ ℕ) → IsBinarySearchResult ord xs r → Contains (map f xs) n → IsOk r
    found (Ok i) s c = refl
    found (Err i) s (k, l, e) =
        let within : k < length xs = rw length-map at l in
        let d : X = some_element xs k within in
        let parted = s rising in
        ⊎_elim
        (λ (h : k < i). let low = less (get_or xs k d) (parted.0 k d (omega arith) h) in absurd (omega (arith, low, number_here k d l e)))
        (λ (h : i ≤ k). let high = greater (get_or xs k d) (parted.1 k d h within) in absurd (omega (arith, high, number_here k d l e)))
        (cases_lt k i)

    -- at its place
    pub place_searched :
        (r : Result ℕ ℕ) (i : ℕ) → r ≡ Ok i → IsBinarySearchResult ord xs r → IsSearchInRange r (length xs) → position_or_len (λ q. q == n) (map f xs) ≡ i
    place_searched r i e s b =
        let within : i < length xs = rw e at b in
        let d : X = some_element xs i within in
        let here : (y : X) → ord (get_or xs i y) ≡ Equal = rw e at s in
        place_is (map f xs) n i up (rw length-map within) (number_at i d within ∙ equal (get_or xs i d) (here d))

-- ---- labels

-- the name of the rule of a production
name_of_rule : (g : Grammar) (p r : ℕ) (w : List ℕ) → IsProductionOf g p r → Some w ≡ slice_get g.rule_names r → w ≡ rule_name g (rule_of g p)
name_of_rule g p r w h e = rw (rule_of_production g p r h) (sym (get_or_from_slice_get g.rule_names r w [] (sym e)))

-- a label in pieces from the left, or from the right
pub label_pieces :
    (g : Grammar) (p r : ℕ) (name : List ℕ) (place : ℕ) → IsProductionOf g p r → Some name ≡ slice_get g.rule_names r → place ≡ place_in_rule g p
    → name ++ (codes "." ++ decimal place) ≡ production_label g p
label_pieces g p r name place h n e =
    rw (e, name_of_rule g p r name h n) (sym (append_assoc (rule_name g (rule_of g p)) (codes ".") (decimal (place_in_rule g p))))
