-- sets of rules, and productions that stay by them
use Rattle.std.proofs.Common.{◌≡◌, ◌&&◌, ◌<◌, ◌≤◌, ◌+◌, ℕ, List, [], ◌∷◌, ◌++◌, Bool, true, false, Option, All, get_or, is_some, length, map, take, refl, ap, sym, ◌∙◌, subst}
use Rattle.std.specs.List.{filter}
use Rattle.std.proofs.lemmas.List.{append-nil, map-append, take_all, take_more}
use Rattle.std.proofs.lemmas.List.Elements.{All-push, filter-append}
use Rattle.lrspec.specs.grammars.Grammar.{Production}
use Rattle.lryacc.specs.UsefulRules.{has, has_all, is_useful}

-- a production of a rule that is not reached is not useful
pub is_useful-unreached : (productive reached : List Bool) (production : Production) → has reached production.rule ≡ false → is_useful productive reached production ≡ false
is_useful-unreached productive reached production gone = rw gone refl

-- nor is one with a rule that is not productive
pub is_useful-unproductive : (productive reached : List Bool) (production : Production) → has_all productive production.body ≡ false → is_useful productive reached production ≡ false
is_useful-unproductive productive reached production none =
    elim (has reached production.rule) as (λ is. (is && has_all productive production.body) ≡ false) [ true ↦ none | false ↦ refl ]

-- all others are
pub is_useful-both : (productive reached : List Bool) (production : Production) → has reached production.rule ≡ true → has_all productive production.body ≡ true → is_useful productive reached production ≡ true
is_useful-both productive reached production is_reached all = rw (is_reached, all) refl

-- a rule more has a number, or none, as it is in a set
pub is_some-more : (numbers more : List (Option ℕ)) (number : Option ℕ) (rules : List Bool) (i : ℕ) (d : Bool) → i < length rules → more ≡ numbers ++ number ∷ [] → map is_some numbers ≡ take i rules → get_or rules i d ≡ is_some number → map is_some more ≡ take (i + 1) rules
is_some-more numbers more number rules i d below is so_far at =
    ap (map is_some) is
    ∙ map-append is_some numbers (number ∷ [])
    ∙ ap (λ (xs : List Bool). xs ++ is_some number ∷ []) so_far
    ∙ ap (λ (b : Bool). take i rules ++ b ∷ []) (sym at)
    ∙ sym (take_more rules i d below)

-- what holds of several holds of one more
pub All-map-more : {A B : Type 0} (P : B → Type 0) (f : A → B) (xs : List A) (i : ℕ) (x : A) → i < length xs → x ≡ get_or xs i x → All P (map f (take i xs)) → P (f x) → All P (map f (take (i + 1) xs))
All-map-more {A} {B} P f xs i x below at so_far here =
    let more : take (i + 1) xs ≡ take i xs ++ x ∷ [] = take_more xs i x below ∙ ap (λ (y : A). take i xs ++ y ∷ []) (sym at) in
    let mapped : map f (take (i + 1) xs) ≡ map f (take i xs) ++ f x ∷ [] = ap (map f) more ∙ map-append f (take i xs) (x ∷ []) in
    subst (λ (ys : List B). All P ys) (sym mapped) (All-push P (map f (take i xs)) (f x) so_far here)

-- it holds of all that were looked at
pub All-map-all : {A B : Type 0} (P : B → Type 0) (f : A → B) (xs : List A) (i : ℕ) → length xs ≤ i → All P (map f (take i xs)) → All P (map f xs)
All-map-all {A} P f xs i behind so_far = subst (λ (ys : List A). All P (map f ys)) (take_all i xs behind) so_far

-- one more element is looked at, and stays
pub filter-keeps : {A B : Type 0} (f : A → B) (stays : A → Bool) (kept new : List B) (all more : List A) (x : A) → more ≡ all ++ x ∷ [] → stays x ≡ true → kept ≡ map f (filter stays all) → new ≡ kept ++ f x ∷ [] → new ≡ map f (filter stays more)
filter-keeps f stays kept new all more x is stays_so so_far added =
    let last : filter stays (x ∷ []) ≡ x ∷ [] = rw stays_so refl in
    rw (is, filter-append stays all (x ∷ []), last, map-append f (filter stays all) (x ∷ []), ← so_far) added

-- one more element is looked at, and goes
pub filter-drops : {A B : Type 0} (f : A → B) (stays : A → Bool) (kept : List B) (all more : List A) (x : A) → more ≡ all ++ x ∷ [] → stays x ≡ false → kept ≡ map f (filter stays all) → kept ≡ map f (filter stays more)
filter-drops f stays kept all more x is gone so_far =
    let last : filter stays (x ∷ []) ≡ [] = rw gone refl in
    rw (is, filter-append stays all (x ∷ []), last, append-nil (filter stays all)) so_far
