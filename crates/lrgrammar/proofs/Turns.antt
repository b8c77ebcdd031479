-- A turn of a loop over a list, its end, an element of a list, and an index of a number.
use Rattle.std.proofs.Common.{◌≡◌, ℕ, ◌+◌, ◌<◌, ◌≤◌, Bool, true, false, ◌&&◌, List, [], ◌∷◌, ◌++◌, length, map, get_or, take, drop, Bor, Option, None, Some, refl, ap, sym, ◌∙◌, subst, arith}
use Rattle.std.specs.Prelude.{All, HoldsAt, MatchOption, IsSome, slice_get}
use Rattle.std.specs.Option.{option_map, unwrap_or}
use Rattle.std.proofs.lemmas.Option.{slice_get-map, slice_get-get_or, slice_get_past, get_or_from_slice_get, unwrap_or-slice_get}
use Rattle.std.proofs.lemmas.List.{length-map, map_more, map_push, take_all, length_push, at_drop_more}
use Rattle.std.proofs.lemmas.List.Elements.{All-push}
use Rattle.lrspec.specs.grammars.Grammar.{Symbol, Rule, Token, Production, Grammar, AreBodySymbols}
use Rattle.lrbits.specs.Bits.{bit}
use Rattle.lrgrammar.specs.NullableBits.{all_set}

-- a list made from another, with one element more
pub maps_more : {X Y A B : Type 0} (f : A → B) (g : Y → B) (h : X → Y) (ys xs : List X) (i : ℕ) (d : X) (old new : List A) (a : A) → ys ≡ xs → i < length ys → f a ≡ g (h (get_or ys i d)) → new ≡ old ++ a ∷ [] → map f old ≡ map g (map h (take i xs)) → map f new ≡ map g (map h (take (i + 1) xs))
maps_more f g h ys xs i d old new a same within made pushed before =
    ap (map f) pushed ∙ map_push f old a ∙ ap (λ zs. zs ++ f a ∷ []) before ∙ ap (λ z. map g (map h (take i xs)) ++ z ∷ []) (made ∙ ap (λ zs. g (h (get_or zs i d))) same) ∙ sym (ap (map g) (map_more h xs i d (subst (λ zs. i < length zs) same within)) ∙ map_push g (map h (take i xs)) (h (get_or xs i d)))

-- at the end of the other, with one element behind
pub maps_all : {X Y A B : Type 0} (f : A → B) (g : Y → B) (h : X → Y) (ys xs : List X) (i : ℕ) (old new : List A) (a : A) (b : B) → ys ≡ xs → length ys ≤ i → f a ≡ b → new ≡ old ++ a ∷ [] → map f old ≡ map g (map h (take i xs)) → map f new ≡ map g (map h xs) ++ b ∷ []
maps_all f g h ys xs i old new a b same past made pushed before =
    ap (map f) pushed ∙ map_push f old a ∙ ap (λ zs. zs ++ f a ∷ []) (before ∙ ap (λ zs. map g (map h zs)) (take_all i xs (subst (λ zs. length zs ≤ i) same past))) ∙ ap (λ z. map g (map h xs) ++ z ∷ []) made

-- at the end of the other, with nothing behind
pub maps_end : {X Y A B : Type 0} (f : A → B) (g : Y → B) (h : X → Y) (ys xs : List X) (i : ℕ) (made : List A) → ys ≡ xs → length ys ≤ i → map f made ≡ map g (map h (take i xs)) → map f made ≡ map g (map h xs)
maps_end f g h ys xs i made same past before =
    before ∙ ap (λ zs. map g (map h zs)) (take_all i xs (subst (λ zs. length zs ≤ i) same past))

-- what holds of all elements of the other holds of each element of the list
pub all_along : {X : Type 0} (P : X → Type 0) (ys xs : List X) (i : ℕ) (d : X) → ys ≡ xs → i < length ys → All P xs → P (get_or ys i d)
all_along P ys xs i d same within all =
    subst (λ zs. P (get_or zs i d)) (sym same) (all i d (subst (λ zs. i < length zs) same within))

-- one element more, counted, and of which the same holds
pub count_more : {X : Type 0} (old new : List X) (x : X) (n : ℕ) → new ≡ old ++ x ∷ [] → length old ≡ n → length new ≡ n + 1
count_more old new x n pushed count = ap length pushed ∙ length_push old x ∙ ap (λ k. k + 1) count

pub all_more : {X : Type 0} (P : X → Type 0) (old new : List X) (x : X) → new ≡ old ++ x ∷ [] → All P old → P x → All P new
all_more P old new x pushed all here = subst (All P) (sym pushed) (All-push P old x all here)

-- a production by its fields
abbrev by_fields : ℕ → List Symbol → Option ℕ → Production
by_fields n xs o = record { rule = n; body = xs; precedence_token = o }

pub same_production : (n m : ℕ) (xs ys : List Symbol) (o q : Option ℕ) → n ≡ m → xs ≡ ys → o ≡ q → by_fields n xs o ≡ by_fields m ys q
same_production n m xs ys o q e f h =
    ap (λ k. by_fields k xs o) e ∙ ap (λ zs. by_fields m zs o) f ∙ ap (λ p. by_fields m ys p) h

-- the list from the place `i` on is its element there and the rest
pub left_is : {X : Type 0} (f : X → Symbol) (xs : List X) (i : ℕ) (x : X) → i < length xs → x ≡ get_or xs i x → map f (drop i xs) ≡ f x ∷ map f (drop (i + 1) xs)
left_is f xs i x h e = at_drop_more (map f) xs i x h ∙ ap (λ z. f z ∷ map f (drop (i + 1) xs)) (sym e)

-- behind a symbol whose bit is set
pub set_behind : (v : List Bool) (r : ℕ) (left next : List Symbol) (b : Bool) → left ≡ Rule r ∷ next → bit v r ≡ true → all_set v left ≡ b → all_set v next ≡ b
set_behind v r left next b e t s = sym (ap (all_set v) e ∙ ap (λ k. k && all_set v next) t) ∙ s

-- a symbol whose bit is not set, and a token
pub unset_ahead : (v : List Bool) (r : ℕ) (left next : List Symbol) (b : Bool) → left ≡ Rule r ∷ next → bit v r ≡ false → all_set v left ≡ b → false ≡ b
unset_ahead v r left next b e t s = sym (ap (all_set v) e ∙ ap (λ k. k && all_set v next) t) ∙ s

pub token_ahead : (v : List Bool) (t : ℕ) (left next : List Symbol) (b : Bool) → left ≡ Token t ∷ next → all_set v left ≡ b → false ≡ b
token_ahead v t left next b e s = sym (ap (all_set v) e) ∙ s

pub symbols_behind : (g : Grammar) (s : Symbol) (left next : List Symbol) → left ≡ s ∷ next → AreBodySymbols g left → AreBodySymbols g next
symbols_behind g s left next e a = (subst (AreBodySymbols g) e a).1

-- a place in the other list is one in the list
pub place_within : {X Y : Type 0} (f : X → Y) (xs : List X) (ys : List Y) (n m : ℕ) → map f xs ≡ ys → n ≡ m → m < length ys → n < length xs
place_within f xs ys n m same at within = omega (arith, ap length same, length-map xs f)

-- an element in hand, as another list has it that is made of the list
pub element_at : {X Y : Type 0} (f : X → Y) (xs : List X) (n m : ℕ) (x : X) (y : Y) (ys : List Y) → n < length xs → x ≡ get_or xs n x → n ≡ m → y ≡ f x → map f xs ≡ ys → Some y ≡ slice_get ys m
element_at f xs n m x y ys within is at made same =
    ap (λ z. Some z) (made ∙ ap f is) ∙ sym (slice_get-map f xs n ∙ ap (option_map f) (slice_get-get_or xs n x within)) ∙ ap (λ k. slice_get (map f xs) k) at ∙ ap (λ zs. slice_get zs m) same

-- past the end of the list there is none in the other either
pub none_at : {X Y : Type 0} (f : X → Y) (xs : List X) (n m : ℕ) (ys : List Y) → length xs ≤ n → n ≡ m → map f xs ≡ ys → None ≡ slice_get ys m
none_at f xs n m ys past at same = sym (slice_get_past ys m (omega (arith, ap length same, length-map xs f)))

-- what is read at a place, as the other list has it, and what stands there for none
pub read_or : {X Y : Type 0} (f : X → Y) (xs : List X) (n m : ℕ) (r : Option (Bor X)) (x : Bor X) (y d : Y) (ys : List Y) → MatchOption r (length xs ≤ n) (λ z. (n < length xs) × HoldsAt (λ w. z.now ≡ w) xs n) → r ≡ Some x → n ≡ m → y ≡ f x.now → map f xs ≡ ys → y ≡ get_or ys m d
read_or f xs n m r x y d ys got is at made same =
    let h = subst (λ o. MatchOption o (length xs ≤ n) (λ z. (n < length xs) × HoldsAt (λ w. z.now ≡ w) xs n)) is got in
    sym (get_or_from_slice_get ys m y d (sym (element_at f xs n m x.now y ys h.0 (h.1 x.now) at made same)))

pub none_or : {X Y : Type 0} (f : X → Y) (xs : List X) (n m : ℕ) (r : Option (Bor X)) (d : Y) (ys : List Y) → MatchOption r (length xs ≤ n) (λ z. (n < length xs) × HoldsAt (λ w. z.now ≡ w) xs n) → r ≡ None → n ≡ m → map f xs ≡ ys → d ≡ get_or ys m d
none_or f xs n m r d ys got is at same =
    let h = subst (λ o. MatchOption o (length xs ≤ n) (λ z. (n < length xs) × HoldsAt (λ w. z.now ≡ w) xs n)) is got in
    ap (λ o. unwrap_or o d) (none_at f xs n m ys h at same) ∙ unwrap_or-slice_get ys m d

-- a number that can be counted has an index, and the index has that number
pub has_index : {X : Type 0} (P : X → Type 0) (most n : ℕ) (o : Option X) → MatchOption o (most < n) P → n ≤ most → IsSome o
has_index P most n None h l = absurd (omega arith)
has_index P most n (Some x) h l = refl

pub index_number : {X : Type 0} (number : X → ℕ) (most n : ℕ) (o : Option X) (x : X) → o ≡ Some x → MatchOption o (most < n) (λ z. (n ≤ most) × (number z ≡ n)) → number x ≡ n
index_number number most n o x is made =
    (subst (λ q. MatchOption q (most < n) (λ z. (n ≤ most) × (number z ≡ n))) is made).1
