-- what the tokens of a row bring, one after another
use Rattle.std.proofs.Common.{◌≡◌, ℕ, ◌+◌, ◌<◌, Bool, List, [], ◌∷◌, ◌++◌, length, map, take, get_or, Option, None, Some, arith, refl, sym, ap, ◌∙◌}
use Rattle.std.specs.Option.{IfSome}
use Rattle.std.specs.List.{flat_map}
use Rattle.std.proofs.lemmas.List.{flat_map_more, map-append, take_more}
use Rattle.lrspec.specs.grammars.Grammar.{Grammar, Token}
use Rattle.lrspec.specs.merging.Graph.{Graph, closed_of, edge}
use Rattle.lrspec.specs.tables.Table.{accepts_at, cell_by, cell_of, reductions}
use Rattle.lrrows.specs.StoredActions.{action_number}

-- the number of a token's cell, by what the cell is made of
pub number_found :
    (g : Grammar) (h : Graph) (s t n : ℕ) (o : Option ℕ) (accepts : Bool) → o ≡ edge h s (Token t) → accepts ≡ accepts_at g (closed_of h s) t
    → n ≡ action_number (cell_by g t (reductions g (closed_of h s) t) o accepts) → n ≡ action_number (cell_of g h s t)
number_found g h s t n o accepts leads accepted cell = cell ∙ rw (leads, accepted) refl

-- a list without more adds nothing
pub row_begun : {X : Type 0} (xs : List X) → xs ≡ xs ++ []
row_begun [] = refl
row_begun (x ∷ xs) = ap (λ ys. x ∷ ys) (row_begun xs)

-- bits that are as many as the turns have one for the turn
pub bit_there : {X : Type 0} (len : X → ℕ) (o : Option X) (n t : ℕ) → IfSome o (λ x. len x ≡ n) → t < n → IfSome o (λ x. t < len x)
bit_there len None n t e l = tt
bit_there len (Some x) n t e l = omega arith

-- what the next element gives is added to what those before it gave
pub listed_turn :
    {X Y Z : Type 0} (xs : List X) (f : X → Y) (h : Y → List Z) (i : ℕ) (x : X) (old cells new : List Z) → i < length xs → x ≡ get_or xs i x
    → cells ≡ old ++ flat_map h (map f (take i xs)) → new ≡ cells ++ h (f x) → new ≡ old ++ flat_map h (map f (take (i + 1) xs))
listed_turn xs f h i x old cells new l at before added =
    let more : take (i + 1) xs ≡ take i xs ++ x ∷ [] = take_more xs i x l ∙ ap (λ y. take i xs ++ y ∷ []) (sym at) in
    rw (more, map-append f (take i xs) (x ∷ [])) (added ∙ ap (λ z. z ++ h (f x)) before ∙ flat_map_more h old (map f (take i xs)) (f x))
