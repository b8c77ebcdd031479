-- nodes that are the same
use Rattle.std.proofs.Common.{◌≡◌, ℕ, ◌+◌, ◌<◌, ◌≤◌, List, [], ◌∷◌, ◌++◌, length, map, get_or, take, sym, ap, ◌∙◌, subst, Option, arith}
use Rattle.std.specs.Prelude.{All, Contains}
use Rattle.std.proofs.lemmas.List.Elements.{All-more, All-map, All-contains}
use Rattle.std.proofs.lemmas.List.{map_more, take_all, get_or-map, length-map}
use Rattle.lrdecided.specs.Nodes.{Side, Node}

-- one more that is the same
pub same_more :
    {X Y : Type 0} (f : X → Y) (xs ys : List X) (i : ℕ) (d e : X) → i < length xs → i < length ys → map f (take i xs) ≡ map f (take i ys)
    → f (get_or xs i d) ≡ f (get_or ys i e) → map f (take (i + 1) xs) ≡ map f (take (i + 1) ys)
same_more f xs ys i d e l m before here =
    map_more f xs i d l ∙ ap (λ z. z ++ f (get_or xs i d) ∷ []) before ∙ ap (λ z. map f (take i ys) ++ z ∷ []) here ∙ sym (map_more f ys i e m)

pub same_all : {X Y : Type 0} (f : X → Y) (xs ys : List X) (i : ℕ) → length xs ≤ i → length ys ≤ i → map f (take i xs) ≡ map f (take i ys) → map f xs ≡ map f ys
same_all f xs ys i l m e = sym (ap (map f) (take_all i xs l)) ∙ e ∙ ap (map f) (take_all i ys m)

-- nodes with the same parts
pub same_node : (a b : Node) → a.one ≡ b.one → a.other ≡ b.other → a.states ≡ b.states → a.next ≡ b.next → a.left ≡ b.left → a ≡ b
same_node a b o p s n l =
    ap (λ (x : Side). record a { one = x }) o
    ∙ ap (λ (x : Side). record a { one = b.one; other = x }) p
    ∙ ap (λ (t : List ℕ). record a { one = b.one; other = b.other; states = t }) s
    ∙ ap (λ (t : Option ℕ). record b { next = t; left = a.left }) n
    ∙ ap (λ (t : Option ℕ). record b { left = t }) l

-- what is the same as the one at a place is listed
pub is_listed : {X Y : Type 0} (f : X → Y) (xs : List X) (i : ℕ) (x : X) (y : Y) → i < length xs → x ≡ get_or xs i x → f x ≡ y → Contains (map f xs) y
is_listed f xs i x y l e is =
    (i, omega (arith, l, length-map xs f), get_or-map f xs i x y l ∙ ap f (sym e) ∙ is)

-- one more of which the same holds
pub all_more :
    {X Y : Type 0} (f : X → Y) (P : Y → Type 0) (xs : List X) (i : ℕ) (x : X) → i < length xs → x ≡ get_or xs i x → All (λ z. P (f z)) (take i xs) → P (f x)
    → All (λ z. P (f z)) (take (i + 1) xs)
all_more f P xs i x l e before here = All-more (λ z. P (f z)) xs i x l before (subst (λ z. P (f z)) e here)

-- and of all
pub all_of : {X Y : Type 0} (f : X → Y) (P : Y → Type 0) (xs : List X) (i : ℕ) → length xs ≤ i → All (λ z. P (f z)) (take i xs) → (y : Y) → Contains (map f xs) y → P y
all_of f P xs i l all y is = All-contains P (map f xs) y (All-map P f xs (subst (λ zs. All (λ z. P (f z)) zs) (take_all i xs l) all)) is
