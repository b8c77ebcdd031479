-- the reduce/reduce conflicts of a state, by its complete items
use Rattle.std.proofs.Common.{◌≡◌, ◌≢◌, ℕ, ◌<◌, Bool, true, false, cond, eqb, List, [], ◌∷◌, Option, None, Some, length, get_or, refl, sym, ap, ◌∙◌, inl, inr, ⊎_elim, arith, eq-eqb}
use Rattle.std.specs.Prelude.{filter, ◌==◌}
use Rattle.std.specs.List.{filter_map, cons_option, list_any, range_with_len}
use Rattle.std.proofs.lemmas.Bool.{cases_eq, false≢true, ne_eqb}
use Rattle.std.proofs.lemmas.List.FromFn.{get_or-map-range_with_len}
use Rattle.lrspec.specs.grammars.Grammar.{Grammar, token_count, body_of}
use Rattle.lrspec.specs.grammars.ItemSets.{Items, item_at, AreUpwards, Fits}
use Rattle.lrspec.specs.merging.Graph.{Graph, closed_of}
use Rattle.lrspec.specs.tables.Table.{bit_or_none, reductions, reduce_reduce_entry}
use Rattle.lrspec.proofs.grammars.ListMembers.{Among, least_first, among_from_test, test_from_among, below_from_range}
use Rattle.lrspec.proofs.tables.CellFacts.{looks_in_from_test, test_from_looks_in, among_reductions, reduction_looks}
use Rattle.lrrows.specs.StateRows.{first_of, complete_items, least_reductions, reduce_reduce_with, reduce_reduce_at}
use Rattle.lrrows.specs.ReduceReduce.{reduce_reduce_by_least, reduce_reduce_by_item, reduce_reduce_by}
use Rattle.lrrows.proofs.ReductionsOf.{complete_of, complete_listed, complete_upwards, given_by, walked}

not_true : (b : Bool) → (b ≡ true → ⊥) → b ≡ false
not_true true n = absurd (n refl)
not_true false n = refl

-- the test for an element answers as what tells whether it is one
tests_alike : (b : Bool) (q : ℕ) (ps : List ℕ) → (b ≡ true → Among q ps) → (Among q ps → b ≡ true) → list_any (λ r. r == q) ps ≡ b
tests_alike true q ps there back = test_from_among q ps (there refl)
tests_alike false q ps there back =
    not_true (list_any (λ r. r == q) ps) (λ e. false≢true (back (among_from_test q ps e)))

either_way : {X : Type 0} (b : Bool) (x : X) → x ≡ cond b x x
either_way true x = refl
either_way false x = refl

-- the entry for a production, by whether it is one of the reductions
entry_is :
    (rs : List ℕ) (q s t : ℕ) (b : Bool) → (b ≡ true → Among q rs) → (Among q rs → b ≡ true)
    → ((p x : ℕ) (ps : List ℕ) → rs ≡ p ∷ ps → Among x ps → p < x)
    → reduce_reduce_entry rs s q t ≡ cond b (reduce_reduce_by_least (first_of rs) q s t) None
entry_is [] q s t b there back up = either_way b None
entry_is (p ∷ ps) q s t b there back up =
    ⊎_elim
    (λ (e : p ≡ q).
    let none : list_any (λ r. r == q) ps ≡ false = tests_alike false q ps (λ f. absurd (false≢true f)) (λ i. absurd (omega (arith, up p q ps refl i))) in
    rw (none, eq-eqb p q e) (either_way b None))
    (λ (n : p ≢ q).
    let alike : list_any (λ r. r == q) ps ≡ b =
    tests_alike b q ps (λ f. elim (there f) [ inl e ↦ absurd (n (sym e)) | inr i ↦ i ]) (λ i. back (inr i)) in
    rw (alike, ne_eqb p q n) refl)
    (cases_eq p q)

module _ {X Y : Type 0} where
  -- walks that give the same at each element are the same
  filter_map_alike : (f h : X → Option Y) (xs : List X) → ((x : X) → Among x xs → f x ≡ h x) → filter_map f xs ≡ filter_map h xs
  filter_map_alike f h [] e = refl
  filter_map_alike f h (x ∷ xs) e = rw (e x (inl refl), filter_map_alike f h xs (λ y i. e y (inr i))) refl

  kept_cond : (b : Bool) (f : X → Option Y) (x : X) (xs : List X) → filter_map f (cond b (x ∷ xs) xs) ≡ cons_option (cond b (f x) None) (filter_map f xs)
  kept_cond true f x xs = refl
  kept_cond false f x xs = refl

  -- a walk over what a filter keeps
  filter_map_filter : (f : X → Option Y) (p : X → Bool) (xs : List X) → filter_map f (filter p xs) ≡ filter_map (λ x. cond (p x) (f x) None) xs
  filter_map_filter f p [] = refl
  filter_map_filter f p (x ∷ xs) = kept_cond (p x) f x (filter p xs) ∙ ap (cons_option (cond (p x) (f x) None)) (filter_map_filter f p xs)

  nothing_given : (f : X → Option Y) (xs : List X) → ((x : X) → f x ≡ None) → filter_map f xs ≡ []
  nothing_given f [] n = refl
  nothing_given f (x ∷ xs) n = rw (n x) (nothing_given f xs n)

-- the entries for a production, by the lookaheads of its complete item
by_bits :
    (least : List (Option ℕ)) (first : ℕ → Option ℕ) (n s q : ℕ) (o : Option (List Bool))
    → ((v : List Bool) → o ≡ Some v → length v ≡ n) → ((t : ℕ) → t < n → get_or least t None ≡ first t)
    → filter_map (λ t. cond (bit_or_none o t) (reduce_reduce_by_least (first t) q s t) None) (range_with_len 0 n) ≡ given_by (reduce_reduce_by_item least s) q o
by_bits least first n s q None long are = nothing_given _ (range_with_len 0 n) (λ t. refl)
by_bits least first n s q (Some v) long are =
    let same : length v ≡ n = long v refl in
    let alike =
    filter_map_alike (λ t. cond (get_or v t false) (reduce_reduce_by_least (first t) q s t) None)
    (λ t. cond (get_or v t false) (reduce_reduce_by_least (get_or least t None) q s t) None) (range_with_len 0 n)
    (λ t i. ap (λ x. cond (get_or v t false) (reduce_reduce_by_least x q s t) None) (sym (are t (below_from_range n t i)))) in
    rw same (alike ∙ sym (filter_map_filter (λ t. reduce_reduce_by_least (get_or least t None) q s t) (λ t. get_or v t false) (range_with_len 0 n)))

bit_parts : (b : Bool) (o : Option (List Bool)) (t : ℕ) → bit_or_none (cond b None o) t ≡ true → (b ≡ false) × (bit_or_none o t ≡ true)
bit_parts true o t e = absurd (false≢true e)
bit_parts false o t e = (refl, e)

bits_there : (b : Bool) (o : Option (List Bool)) (v : List Bool) → cond b None o ≡ Some v → o ≡ Some v
bits_there true o v e = absurd cc
bits_there false o v e = e

-- a production looks at a token where it is one of the reductions on it
among_by_bit : (g : Grammar) (a : Items) (q t : ℕ) → q < length g.productions → bit_or_none (complete_of g a q) t ≡ true → Among q (reductions g a t)
among_by_bit g a q t l e =
    let (n, k) = bit_parts (eqb q g.start_production) (item_at a q (length (body_of g q))) t e in
    among_reductions g a t q l (λ s. false≢true (sym n ∙ eq-eqb q g.start_production s)) (looks_in_from_test a q (length (body_of g q)) t k)

bit_of_among : (g : Grammar) (a : Items) (q t : ℕ) → Among q (reductions g a t) → bit_or_none (complete_of g a q) t ≡ true
bit_of_among g a q t i =
    let (n, k) = reduction_looks g a t q i in
    rw (ne_eqb q g.start_production n) (test_from_looks_in a q (length (body_of g q)) t k)

-- the conflicts of a state with one production, by its complete item
reduce_reduce_are :
    (g : Grammar) (h : Graph) (s q : ℕ) → Fits g (closed_of h s) → q < length g.productions
    → reduce_reduce_with g h s q ≡ given_by (reduce_reduce_by_item (least_reductions g (closed_of h s)) s) q (complete_of g (closed_of h s) q)
reduce_reduce_are g h s q fits l =
    let a = closed_of h s in
    let first : ℕ → Option ℕ = λ t. first_of (reductions g a t) in
    let n = token_count g in
    filter_map_alike (λ t. reduce_reduce_entry (reductions g a t) s q t) (λ t. cond (bit_or_none (complete_of g a q) t) (reduce_reduce_by_least (first t) q s t) None)
    (range_with_len 0 n)
    (λ t i. entry_is (reductions g a t) q s t (bit_or_none (complete_of g a q) t) (among_by_bit g a q t l) (bit_of_among g a q t)
    (λ p x ps e j. least_first _ 0 (length g.productions) p x ps e j))
    ∙ by_bits (least_reductions g a) first n s q (complete_of g a q)
    (λ v e. (fits q (length (body_of g q)) v (bits_there (eqb q g.start_production) (item_at a q (length (body_of g q))) v e)).bits)
    (λ t k. get_or-map-range_with_len first 0 n t t None k (omega arith))

-- the conflicts by the complete items and the least productions are those of the state
pub reduce_reduce_is :
    (g : Grammar) (h : Graph) (s : ℕ) → AreUpwards (closed_of h s) → Fits g (closed_of h s)
    → reduce_reduce_by (least_reductions g (closed_of h s)) s (complete_items g (closed_of h s)) ≡ reduce_reduce_at g h s
reduce_reduce_is g h s up fits =
    let a = closed_of h s in
    let n = length g.productions in
    sym
    (walked (reduce_reduce_with g h s) (reduce_reduce_by_item (least_reductions g a) s) 0 n n (complete_items g a) (omega arith) (complete_upwards g a up fits)
    (λ q l m. rw (complete_listed g a q) (reduce_reduce_are g h s q fits m)))
