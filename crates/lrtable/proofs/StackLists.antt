-- stacks that are kept with the top last, and texts by the place of the next token
use Rattle.std.proofs.Common.{◌≡◌, ℕ, zero, suc, ◌-◌, ◌<◌, ◌≤◌, List, [], ◌∷◌, ◌++◌, length, map, reverse, take, drop, get_or, refl, sym, ap, ◌∙◌, length-drop, arith}
use Rattle.std.proofs.lemmas.List.{drop_at, reverse-append, length-reverse, length-map, map-append, get_or-reverse, get_or-map, take-append-drop}
use Rattle.lrspec.specs.grammars.Grammar.{Grammar}
use Rattle.lrspec.specs.tables.Machine.{top, next_token}

-- what is pushed comes first
pub stack_pushed : {X : Type 0} (f : X → ℕ) (xs : List X) (x : X) → reverse (map f (xs ++ x ∷ [])) ≡ f x ∷ reverse (map f xs)
stack_pushed f xs x = ap reverse (map-append f xs (x ∷ [])) ∙ reverse-append (map f xs) (f x ∷ [])

-- the first that are left are those behind the first that are dropped
pub stack_cut :
    {X : Type 0} (f : X → ℕ) (xs : List X) (n : ℕ) → n ≤ length xs → reverse (map f (take (length xs - n) xs)) ≡ drop n (reverse (map f xs))
stack_cut f xs n l =
    let k : ℕ = length xs - n in
    let whole : map f xs ≡ map f (take k xs) ++ map f (drop k xs) = ap (map f) (sym (take-append-drop k xs)) ∙ map-append f (take k xs) (drop k xs) in
    let turned : reverse (map f xs) ≡ reverse (map f (drop k xs)) ++ reverse (map f (take k xs)) =
    ap reverse whole ∙ reverse-append (map f (take k xs)) (map f (drop k xs)) in
    let n_is : n ≡ length (reverse (map f (drop k xs))) = omega (arith, length-reverse (map f (drop k xs)), length-map (drop k xs) f, length-drop k xs) in
    sym (ap (drop n) turned ∙ drop_at (reverse (map f (drop k xs))) (reverse (map f (take k xs))) n (sym n_is))

-- the first of a list, as its top
top_first : (ss : List ℕ) → top ss ≡ get_or ss 0 0
top_first [] = refl
top_first (s ∷ ss) = refl

-- the last is the top
pub stack_top : {X : Type 0} (f : X → ℕ) (xs : List X) (x : X) → 0 < length xs → x ≡ get_or xs (length xs - 1) x → top (reverse (map f xs)) ≡ f x
stack_top f xs x l e =
    let last : ℕ = length xs - 1 in
    let n : length (map f xs) ≡ length xs = length-map xs f in
    let i : length (map f xs) - 1 - 0 ≡ last = omega arith in
    top_first (reverse (map f xs))
    ∙ (get_or-reverse (map f xs) 0 0 (omega arith)
    ∙ (ap (λ k. get_or (map f xs) k 0) i ∙ (get_or-map f xs last x 0 (omega arith) ∙ ap f (sym e))))

-- the token at the place is the next one
pub next_there :
    {X : Type 0} (g : Grammar) (f : X → ℕ) (xs : List X) (i : ℕ) (x : X) → i < length xs → x ≡ get_or xs i x → next_token g (drop i (map f xs)) ≡ f x
next_there g f [] i x l e = absurd (omega arith)
next_there g f (y ∷ ys) zero x l e = sym (ap f e)
next_there g f (y ∷ ys) (suc i) x l e = next_there g f ys i x (omega arith) e
