-- a number more of a row
use Rattle.std.proofs.Common.{◌≡◌, ℕ, ◌+◌, List, [], ◌∷◌, ◌++◌, map, length, append_assoc, ap, sym, ◌∙◌, arith}
use Rattle.std.specs.Prelude.{Option, None, Some, slice_get}
use Rattle.std.specs.List.{flat_map, range_with_len}
use Rattle.lrspec.specs.grammars.Grammar.{Grammar, Production, IsOfRule, IsProductionOf, rule_or_zero, rule_of, body_of}
use Rattle.lrflat.specs.Flat.{production_pair}
use Rattle.std.proofs.lemmas.List.{flat_map_more, map-id}
use Rattle.std.proofs.lemmas.List.FromFn.{map-range_with_len_more}

pub one_more :
    (f : ℕ → ℕ) (i : ℕ) (before old new : List ℕ) (n : ℕ)
    → old ≡ before ++ map f (range_with_len 0 i) → new ≡ old ++ n ∷ [] → n ≡ f i
    → new ≡ before ++ map f (range_with_len 0 (i + 1))
one_more f i before old new n so more same =
    more ∙ ap (λ xs. xs ++ n ∷ []) so ∙ append_assoc before (map f (range_with_len 0 i)) (n ∷ [])
    ∙ ap (λ k. before ++ (map f (range_with_len 0 i) ++ k ∷ [])) same
    ∙ ap (λ xs. before ++ xs) (sym (map-range_with_len_more f 0 i i (omega arith)))

-- a number more in turn
counting : (i : ℕ) → range_with_len 0 (i + 1) ≡ range_with_len 0 i ++ i ∷ []
counting i =
    sym (map-id (range_with_len 0 (i + 1))) ∙ map-range_with_len_more (λ n. n) 0 i i (omega arith)
    ∙ ap (λ xs. xs ++ i ∷ []) (map-id (range_with_len 0 i))

-- a row more of rows
pub row_more :
    (f : ℕ → List ℕ) (i : ℕ) (before old new : List ℕ) (row : List ℕ)
    → old ≡ before ++ flat_map f (range_with_len 0 i) → new ≡ old ++ row → row ≡ f i
    → new ≡ before ++ flat_map f (range_with_len 0 (i + 1))
row_more f i before old new row so more same =
    more ∙ ap (λ xs. xs ++ row) so ∙ ap (λ r. (before ++ flat_map f (range_with_len 0 i)) ++ r) same
    ∙ flat_map_more f before (range_with_len 0 i) i
    ∙ ap (λ xs. before ++ flat_map f xs) (sym (counting i))

-- the rule of a production
rule_is : (o : Option Production) (r : ℕ) → IsOfRule o r → r ≡ rule_or_zero o
rule_is None r is = absurd is
rule_is (Some p) r is = sym is

pub pair_is :
    (g : Grammar) (i p r n rule symbols : ℕ) → p ≡ i → rule ≡ r → IsProductionOf g p r → symbols ≡ n → n ≡ length (body_of g p)
    → rule ∷ symbols ∷ [] ≡ production_pair g i
pair_is g i p r n rule symbols at told of_rule counted long =
    ap (λ k. k ∷ symbols ∷ []) (told ∙ rule_is (slice_get g.productions p) r of_rule)
    ∙ ap (λ k. rule_of g p ∷ k ∷ []) (counted ∙ long) ∙ ap (production_pair g) at

-- a pair is added number by number
pub both : (old new newest : List ℕ) (r n : ℕ) → new ≡ old ++ r ∷ [] → newest ≡ new ++ n ∷ [] → newest ≡ old ++ r ∷ n ∷ []
both old new newest r n one other = other ∙ ap (λ xs. xs ++ n ∷ []) one ∙ append_assoc old (r ∷ []) (n ∷ [])
