-- what stays of a grammar, one after another
use Rattle.std.proofs.Common.{◌≡◌, ◌⊎◌, inl, inr, ℕ, ◌+◌, ◌<◌, ◌≤◌, suc, zero, List, [], ◌∷◌, ◌++◌, length, get_or, take, map, Option, Some, None, refl, ap, sym, ◌∙◌, arith, add-one, add-zero}
use Rattle.std.specs.List.{filter_map, range_with_len}
use Rattle.std.specs.declared.vec.Vec.{Vec}
use Rattle.std.specs.declared.alloc.Global.{Global}
use Rattle.std.proofs.lemmas.List.{append-nil, map-append, take_all}
use Rattle.std.proofs.lemmas.List.Elements.{filter_map-append}
use Rattle.std.proofs.lemmas.List.FromFn.{length-range_with_len}
use Rattle.lrgrammar.specs.declared.grammar.PartProd.{PartProd}
use Rattle.lrgrammar.specs.StoredParts.{part_symbol_of}
use Rattle.lryacc.specs.KeptProductions.{AreInOrder, new_number, new_placed, new_symbol, with_numbers}
use Rattle.lryacc.specs.PlacedProductions.{placed_at, with_places}
use Rattle.lryacc.proofs.PlacedLemmas.{with_places-take}
use Rattle.lryacc.specs.declared.places.Span.{Span}

range_with_len-suc : (a n : ℕ) → range_with_len a (suc n) ≡ range_with_len a n ++ (a + n) ∷ []
range_with_len-suc a zero = simp add-zero
range_with_len-suc a (suc n) =
    let e : (a + 1) + n ≡ a + suc n = omega arith in
    ap (λ (more : List ℕ). a ∷ more) (range_with_len-suc (a + 1) n ∙ ap (λ (k : ℕ). range_with_len (a + 1) n ++ k ∷ []) e)

range_with_len-more : (a n : ℕ) → range_with_len a (n + 1) ≡ range_with_len a n ++ (a + n) ∷ []
range_with_len-more a n = ap (range_with_len a) (add-one n) ∙ range_with_len-suc a n

-- a rule stays, and has the next number
pub numbered-more : (numbers more : List (Option ℕ)) (next : ℕ) → more ≡ numbers ++ Some next ∷ [] → filter_map (λ number. number) numbers ≡ range_with_len 0 next → filter_map (λ number. number) more ≡ range_with_len 0 (next + 1)
numbered-more numbers more next is so_far =
    let last : 0 + next ≡ next = omega arith in
    ap (λ (all : List (Option ℕ)). filter_map (λ number. number) all) is
    ∙ filter_map-append (λ (number : Option ℕ). number) numbers (Some next ∷ [])
    ∙ ap (λ (all : List ℕ). all ++ next ∷ []) so_far
    ∙ sym (range_with_len-more 0 next ∙ ap (λ (k : ℕ). range_with_len 0 next ++ k ∷ []) last)

-- a rule does not stay
pub numbered-same : (numbers more : List (Option ℕ)) (next : ℕ) → more ≡ numbers ++ None ∷ [] → filter_map (λ number. number) numbers ≡ range_with_len 0 next → filter_map (λ number. number) more ≡ range_with_len 0 next
numbered-same numbers more next is so_far =
    ap (λ (all : List (Option ℕ)). filter_map (λ number. number) all) is
    ∙ filter_map-append (λ (number : Option ℕ). number) numbers (None ∷ [])
    ∙ append-nil (filter_map (λ number. number) numbers)
    ∙ so_far

-- as many numbers as rules that stay
pub AreInOrder-numbered : (numbers : List (Option ℕ)) (next : ℕ) → filter_map (λ number. number) numbers ≡ range_with_len 0 next → AreInOrder numbers
AreInOrder-numbered numbers next is =
    let many : length (filter_map (λ number. number) numbers) ≡ next = ap length is ∙ length-range_with_len 0 next in
    is ∙ ap (λ (n : ℕ). range_with_len 0 n) (sym many)

-- a production is made anew, with its rules by their new numbers
pub new_placed-made : (numbers : List (Option ℕ)) (prod new : PartProd) (place : Span) (own places : List Span) → new.rule ≡ new_number numbers prod.rule → map part_symbol_of new.symbols.items ≡ map (new_symbol numbers) (map part_symbol_of prod.symbols.items) → new.precedence ≡ prod.precedence → own ≡ places → placed_at new place own ≡ new_placed numbers (placed_at prod place places)
new_placed-made numbers prod new place own places rule body precedence same = cc

-- one more production is looked at
pub new_placed-take : (numbers : List (Option ℕ)) (prods : List PartProd) (places : List Span) (symbols : List (Vec Span Global)) (i : ℕ) (prod : PartProd) (place : Span) (own : Vec Span Global) → i < length prods → length places ≡ length prods → length symbols ≡ length prods → prod ≡ get_or prods i prod → place ≡ get_or places i place → own ≡ get_or symbols i own → map (new_placed numbers) (with_places (take (i + 1) prods) (take (i + 1) places) (take (i + 1) symbols)) ≡ map (new_placed numbers) (with_places (take i prods) (take i places) (take i symbols)) ++ new_placed numbers (placed_at prod place own.items) ∷ []
new_placed-take numbers prods places symbols i prod place own below p q at_prod at_place at_own =
    ap (map (new_placed numbers)) (with_places-take prods places symbols i prod place own below p q (sym at_prod) (sym at_place) (sym at_own))
    ∙ map-append (new_placed numbers) (with_places (take i prods) (take i places) (take i symbols)) (placed_at prod place own.items ∷ [])

-- all productions were looked at
pub with_places-all : (prods : List PartProd) (places : List Span) (symbols : List (Vec Span Global)) (i : ℕ) → length prods ≤ i → length places ≡ length prods → length symbols ≡ length prods → with_places (take i prods) (take i places) (take i symbols) ≡ with_places prods places symbols
with_places-all prods places symbols i behind p q =
    let behind_places : length places ≤ i = omega arith in
    let behind_symbols : length symbols ≤ i = omega arith in
    rw (take_all i prods behind, take_all i places behind_places, take_all i symbols behind_symbols) refl

-- without an element, none stays
with_numbers-none : {A : Type 0} (numbers : List (Option ℕ)) → with_numbers {A = A} numbers [] ≡ []
with_numbers-none [] = refl
with_numbers-none (number ∷ numbers) = refl

-- no number is left, or no element
pub with_numbers-end : {A : Type 0} (kept all : List A) (numbers : List (Option ℕ)) (items : List A) → (numbers ≡ []) ⊎ (items ≡ []) → kept ++ with_numbers numbers items ≡ all → kept ≡ all
with_numbers-end kept all numbers items end left =
    let none : with_numbers numbers items ≡ [] = elim end [
      | inl first ↦ rw (first) refl
      | inr item ↦ rw (item) (with_numbers-none numbers)
    ] in
    sym (append-nil kept) ∙ rw (none) at left
