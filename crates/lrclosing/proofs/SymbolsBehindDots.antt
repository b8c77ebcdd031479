-- the symbols behind the dot of an item
use Rattle.std.proofs.Common.{◌≡◌, ℕ, zero, suc, ◌+◌, ◌-◌, ◌<◌, ◌≤◌, List, [], ◌∷◌, length, map, take, drop, Option, None, Some, get_or, add-one, length-drop, drop-cons, refl, sym, ◌∙◌, arith}
use Rattle.std.specs.Option.{IsSome, MatchOption}
use Rattle.std.proofs.lemmas.List.{take_all, drop_all, drop-map, length-map}
use Rattle.lrspec.specs.grammars.Grammar.{Symbol, Grammar, AreBodySymbols}

-- the symbols behind a place
pub symbols_behind : (g : Grammar) (n : ℕ) (y : List Symbol) → AreBodySymbols g y → AreBodySymbols g (drop n y)
symbols_behind g zero y s = s
symbols_behind g (suc n) [] s = s
symbols_behind g (suc n) (x ∷ y) s = symbols_behind g n y s.1

-- the slice from a place on
pub sliced :
    {X Y : Type 0} (f : X → Y) (xs : List X) (n : ℕ) (ys : List Y) → map f xs ≡ ys → map f (take (length xs - n) (drop n xs)) ≡ drop n ys
sliced f xs n ys e =
    let whole : take (length xs - n) (drop n xs) ≡ drop n xs = take_all (length xs - n) (drop n xs) (omega (arith, length-drop n xs)) in
    rw (whole, ← e) (sym (drop-map f n xs))

-- what is left at a place is what stands there and what is left behind it
pub left_at :
    {X Y : Type 0} (f : X → Y) (xs : List X) (i : ℕ) (x y : X) → i < length xs → x ≡ get_or xs i x → x ≡ y
    → map f (drop i xs) ≡ f y ∷ map f (drop (i + 1) xs)
left_at f xs i x y h e s =
    let cut : drop i xs ≡ get_or xs i x ∷ drop (suc i) xs = drop-cons xs i x h in
    rw (add-one, cut, ← e, s) refl

-- what stands in a body at a place is behind the dot there
pub behind_dot :
    {X Y : Type 0} (f : X → Y) (xs : List X) (i d : ℕ) (e x : X) (ys : List Y) → i < length xs → map f xs ≡ ys → i ≡ d → get_or xs i e ≡ x
    → (zs : List Y) × (drop d ys ≡ f x ∷ zs)
behind_dot f xs i d e x ys h m k s =
    let cut : drop i xs ≡ get_or xs i e ∷ drop (suc i) xs = drop-cons xs i e h in
    (map f (drop (suc i) xs), rw (← m, ← k, drop-map f i xs, cut, s) refl)

-- nothing is left at the end
pub left_none : {X Y : Type 0} (f : X → Y) (xs : List X) (i : ℕ) → length xs ≤ i → map f (drop i xs) ≡ []
left_none f xs i h = rw (drop_all i xs h) refl

-- a place within a body is one within the list that holds it
pub within_body : {X Y : Type 0} (f : X → Y) (xs : List X) (ys : List Y) (n : ℕ) → map f xs ≡ ys → n ≤ length ys → n ≤ length xs
within_body f xs ys n e h = let k : n ≤ length (map f xs) = rw e h in rw length-map at k

-- a number up to one that is kept is kept
pub number_fits : {X : Type 0} (P : X → Type 0) (o : Option X) (most q : ℕ) → MatchOption o (most < q) P → q ≤ most → IsSome o
number_fits P None most q m l = absurd (omega arith)
number_fits P (Some x) most q m l = refl

-- nothing stands in a body at its end
pub past_body :
    {X Y : Type 0} (f : X → Y) (xs : List X) (i d : ℕ) (ys : List Y) → length xs ≤ i → map f xs ≡ ys → i ≡ d → (x : Y) → (zs : List Y) × (drop d ys ≡ x ∷ zs) → ⊥
past_body f xs i d ys h m k x b =
    let none : drop d ys ≡ [] = rw (← m, ← k, drop-map f i xs) (left_none f xs i h) in
    let both : [] ≡ x ∷ b.0 = sym none ∙ b.1 in
    cc
