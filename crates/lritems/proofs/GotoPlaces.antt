-- where gotos stand in a list
use Rattle.std.proofs.Common.{◌≡◌, ℕ, zero, suc, Bool, true, false, List, [], ◌∷◌, ◌++◌, Option, Some, ◌<◌, get_or, length, refl, sym, ap, ◌∙◌, ◌⊎◌, inl, inr, ⊎_elim, arith}
use Rattle.std.specs.Prelude.{slice_get, slice_set}
use Rattle.std.specs.Option.{IsSome}
use Rattle.lrspec.specs.grammars.Grammar.{Symbol, Rule, Token, Grammar, IsBodySymbol}
use Rattle.lrspec.specs.grammars.ItemSets.{Items}
use Rattle.lrspec.specs.merging.Graph.{same_symbol}
use Rattle.std.proofs.lemmas.List.{map-append, map-set, length-map}
use Rattle.std.proofs.lemmas.Option.{slice_get-map, slice_get-get_or, slice_get_within}
use Rattle.lrgrammar.specs.declared.idx.Symbol as code
use Rattle.lrgrammar.specs.Symbols.{symbol_of}
use Rattle.lritems.specs.declared.gotos.Goto.{Goto}
use Rattle.lritems.specs.declared.gotos.PlacesBySymbol.{PlacesBySymbol}
use Rattle.lritems.specs.Gotos.{items_in, gotos_of, noted_at, HasPlaceFor, ArePlacesFor, HasGotoOn, HasGotoAt, ArePlacesOf, IsPutAt, IsPutOn}
use Rattle.lritems.proofs.SymbolTests.{symbol_from_test, test_itself}

-- a place below the length of a list has an element
is_there : {X : Type 0} (xs : List X) (k : ℕ) → k < length xs → IsSome (slice_get xs k)
is_there [] k h = absurd (omega arith)
is_there (x ∷ xs) zero h = refl
is_there (x ∷ xs) (suc k) h = is_there xs k (omega arith)

-- and where there is an element the place is below the length
pub below_of_there : {X : Type 0} (xs : List X) (k : ℕ) → IsSome (slice_get xs k) → k < length xs
below_of_there [] k h = cc
below_of_there (x ∷ xs) zero h = omega arith
below_of_there (x ∷ xs) (suc k) h = let l = below_of_there xs k h in omega (arith, l)

-- what is written at a place stands there
pub written_here : {X : Type 0} (xs : List X) (k : ℕ) (x : X) → IsSome (slice_get xs k) → slice_get (slice_set xs k x) k ≡ Some x
written_here [] k x h = cc
written_here (y ∷ xs) zero x h = refl
written_here (y ∷ xs) (suc k) x h = written_here xs k x h

-- and elsewhere what stood there
written_apart : {X : Type 0} (xs : List X) (k j : ℕ) (x : X) → (j ≡ k → ⊥) → slice_get (slice_set xs k x) j ≡ slice_get xs j
written_apart [] k j x n = refl
written_apart (y ∷ xs) zero zero x n = absurd (n refl)
written_apart (y ∷ xs) zero (suc j) x n = refl
written_apart (y ∷ xs) (suc k) zero x n = refl
written_apart (y ∷ xs) (suc k) (suc j) x n = written_apart xs k j x (λ e. n (ap suc e))

-- what is noted for a symbol, by the lists of places
abbrev noted_in : List ℕ → List ℕ → Symbol → Option ℕ
noted_in rules tokens (Rule r) = slice_get rules r
noted_in rules tokens (Token t) = slice_get tokens t

-- a place noted for a rule, or for a token, leaves those of the other symbols
pub rule_apart :
    (rules tokens : List ℕ) (k r place : ℕ) → k ≡ r → (x : Symbol) → (x ≡ Rule r → ⊥) → noted_in (slice_set rules k place) tokens x ≡ noted_in rules tokens x
rule_apart rules tokens k r place i (Rule s) n = written_apart rules k s place (λ j. n (ap Rule (j ∙ i)))
rule_apart rules tokens k r place i (Token t) n = refl

pub token_apart :
    (rules tokens : List ℕ) (k t place : ℕ) → k ≡ t → (x : Symbol) → (x ≡ Token t → ⊥) → noted_in rules (slice_set tokens k place) x ≡ noted_in rules tokens x
token_apart rules tokens k t place i (Token s) n = written_apart tokens k s place (λ j. n (ap Token (j ∙ i)))
token_apart rules tokens k t place i (Rule r) n = refl

-- a goto that stands somewhere is in the list
pub on_from_at : (gs : List (Symbol × Items)) (k : ℕ) (x : Symbol) → HasGotoAt gs k x → HasGotoOn gs x
on_from_at [] k x h = cc
on_from_at (e ∷ gs) zero x h = let s : Some e ≡ Some (x, h.0) = h.1 in let t : e ≡ (x, h.0) = cc in inl (ap (λ f. f.0) (sym t))
on_from_at (e ∷ gs) (suc k) x h = inr (on_from_at gs k x h)

-- what stands somewhere stands there in a longer list too
pub at_longer : (gs hs : List (Symbol × Items)) (k : ℕ) (x : Symbol) → HasGotoAt gs k x → HasGotoAt (gs ++ hs) k x
at_longer [] hs k x h = cc
at_longer (e ∷ gs) hs zero x h = h
at_longer (e ∷ gs) hs (suc k) x h = at_longer gs hs k x h

-- what is put at the end stands there
pub at_end : (gs : List (Symbol × Items)) (x : Symbol) (a : Items) → HasGotoAt (gs ++ (x, a) ∷ []) (length gs) x
at_end [] x a = (a, refl)
at_end (e ∷ gs) x a = at_end gs x a

-- one on the symbol in a longer list is in the shorter, or is the one at the end
pub on_longer : (gs : List (Symbol × Items)) (x : Symbol) (a : Items) (y : Symbol) → HasGotoOn (gs ++ (x, a) ∷ []) y → HasGotoOn gs y ⊎ (y ≡ x)
on_longer [] x a y (inl h) = inr h
on_longer [] x a y (inr h) = absurd h
on_longer (e ∷ gs) x a y (inl h) = inl (inl h)
on_longer (e ∷ gs) x a y (inr h) = elim (on_longer gs x a y h) [ inl k ↦ inl (inr k) | inr k ↦ inr k ]

one_symbol : (o : Option (Symbol × Items)) (e f : Symbol × Items) → o ≡ Some e → o ≡ Some f → f.0 ≡ e.0
one_symbol o e f h k = let s : Some e ≡ Some f = sym h ∙ k in let is : e ≡ f = cc in ap (λ z. z.0) (sym is)

-- another goto on the same symbol at a place: the list has the symbols that it had
pub set_on :
    (gs : List (Symbol × Items)) (k : ℕ) (y x : Symbol) (a b : Items) → slice_get gs k ≡ Some (x, a) → HasGotoOn gs y → HasGotoOn (slice_set gs k (x, b)) y
set_on [] k y x a b e h = h
set_on (e ∷ gs) zero y x a b t (inl h) = let same : Some e ≡ Some (x, a) = t in let is : e ≡ (x, a) = cc in inl (h ∙ ap (λ f. f.0) is)
set_on (e ∷ gs) zero y x a b t (inr h) = inr h
set_on (e ∷ gs) (suc k) y x a b t (inl h) = inl h
set_on (e ∷ gs) (suc k) y x a b t (inr h) = inr (set_on gs k y x a b t h)

pub on_set :
    (gs : List (Symbol × Items)) (k : ℕ) (y x : Symbol) (a b : Items) → slice_get gs k ≡ Some (x, a) → HasGotoOn (slice_set gs k (x, b)) y → HasGotoOn gs y
on_set [] k y x a b e h = h
on_set (e ∷ gs) zero y x a b t (inl h) = let same : Some e ≡ Some (x, a) = t in let is : e ≡ (x, a) = cc in inl (h ∙ ap (λ f. f.0) (sym is))
on_set (e ∷ gs) zero y x a b t (inr h) = inr h
on_set (e ∷ gs) (suc k) y x a b t (inl h) = inl h
on_set (e ∷ gs) (suc k) y x a b t (inr h) = inr (on_set gs k y x a b t h)

-- and at each place the symbol that it had
pub at_set :
    (gs : List (Symbol × Items)) (k j : ℕ) (y x : Symbol) (a b : Items) → slice_get gs k ≡ Some (x, a) → HasGotoAt gs j y → HasGotoAt (slice_set gs k (x, b)) j y
at_set [] k j y x a b e h = cc
at_set (e ∷ gs) zero zero y x a b t h = (b, ap (λ z. Some (z, b)) (one_symbol (Some e) (y, h.0) (x, a) h.1 t))
at_set (e ∷ gs) zero (suc j) y x a b t h = h
at_set (e ∷ gs) (suc k) zero y x a b t h = h
at_set (e ∷ gs) (suc k) (suc j) y x a b t h = at_set gs k j y x a b t h

-- the places of a list with one goto more
pub places_longer :
    (gs : List (Symbol × Items)) (ps qs : PlacesBySymbol) (x : Symbol) (a : Items) → ArePlacesOf gs ps → noted_at qs x ≡ Some (length gs)
    → ((y : Symbol) → (y ≡ x → ⊥) → noted_at qs y ≡ noted_at ps y) → ArePlacesOf (gs ++ (x, a) ∷ []) qs
places_longer gs ps qs x a h here others y on = go (same_symbol y x) refl
  where
    go : (b : Bool) → same_symbol y x ≡ b → (k : ℕ) × (noted_at qs y ≡ Some k) × HasGotoAt (gs ++ (x, a) ∷ []) k y
    go true e = let s = symbol_from_test y x e in rw s (length gs, here, at_end gs x a)
    go false e =
        let n : y ≡ x → ⊥ = λ s. let t : same_symbol y x ≡ true = rw s (test_itself x) in cc in
        let before : HasGotoOn gs y = ⊎_elim (λ (k : HasGotoOn gs y). k) (λ (s : y ≡ x). absurd (n s)) (on_longer gs x a y on) in
        let p = h y before in
        (p.0, others y n ∙ p.1, at_longer gs ((x, a) ∷ []) p.0 y p.2)

-- a symbol's goto is at the place that is noted
pub at_noted : (gs : List (Symbol × Items)) (ps : PlacesBySymbol) (x : Symbol) (k : ℕ) → ArePlacesOf gs ps → Some k ≡ noted_at ps x → HasGotoOn gs x → HasGotoAt gs k x
at_noted gs ps x k h e on =
    let p = h x on in
    let s : Some k ≡ Some p.0 = e ∙ p.1 in
    let same : p.0 ≡ k = cc in
    rw same at p.2

-- what is read at a place of the code's list stands there
pub goto_read :
    {T : Type 0} (number : T → ℕ) (gs : List (code.Symbol T × Goto T)) (k : ℕ) (d : code.Symbol T × Goto T) → k < length gs
    → slice_get (gotos_of number gs) k ≡ Some (symbol_of number (get_or gs k d).0, items_in number (get_or gs k d).1)
goto_read number gs k d below = slice_get-map (λ f. (symbol_of number f.0, items_in number f.1)) gs k ∙ rw (slice_get-get_or gs k d below) refl

-- a goto put at the end
pub pushed_gotos :
    {T : Type 0} (number : T → ℕ) (gs hs : List (code.Symbol T × Goto T)) (x : code.Symbol T) (a : Goto T) (b : Items) → hs ≡ gs ++ (x, a) ∷ []
    → items_in number a ≡ b → gotos_of number hs ≡ gotos_of number gs ++ (symbol_of number x, b) ∷ []
pushed_gotos number gs hs x a b e f = rw e (map-append _ gs ((x, a) ∷ []) ∙ rw f refl)

-- what is written over the last goto
set_end : (gs : List (Symbol × Items)) (e f : Symbol × Items) → slice_set (gs ++ e ∷ []) (length gs) f ≡ gs ++ f ∷ []
set_end [] e f = refl
set_end (h ∷ gs) e f = ap (λ hs. h ∷ hs) (set_end gs e f)

-- a goto of one item put at the end is one that is begun, with the item put into it
pub put_begun :
    (gs hs : List (Symbol × Items)) (x : Symbol) (p d : ℕ) (ctx : List Bool) → (HasGotoOn gs x → ⊥) → hs ≡ gs ++ (x, ((p, d), ctx) ∷ []) ∷ [] → IsPutOn x p d ctx gs hs
put_begun gs hs x p d ctx none is = record {
  ready = gs ++ (x, []) ∷ [];
  place = length gs;
  made = inr (none, refl);
  at = at_end gs x [];
  put = record {
    symbol = x;
    before = [];
    was = begun gs x;
    is = is ∙ sym (set_end gs (x, []) (x, ((p, d), ctx) ∷ []));
  };
}
  where
    begun : (gs : List (Symbol × Items)) (x : Symbol) → slice_get (gs ++ (x, []) ∷ []) (length gs) ≡ Some (x, [])
    begun [] x = refl
    begun (e ∷ gs) x = begun gs x

-- an item put at the end of a goto that is there
pub put_there :
    (gs hs : List (Symbol × Items)) (x : Symbol) (k p d : ℕ) (ctx : List Bool) → HasGotoAt gs k x → IsPutAt k p d ctx gs hs → IsPutOn x p d ctx gs hs
put_there gs hs x k p d ctx at put = record { ready = gs; place = k; made = inl refl; at = at; put = put }

-- an item put at the end of the goto at a place
pub put_in_goto :
    {T : Type 0} (number : T → ℕ) (gs : List (code.Symbol T × Goto T)) (k : ℕ) (e : code.Symbol T × Goto T) (a : Goto T) (p d : ℕ) (ctx : List Bool) → k < length gs
    → e ≡ get_or gs k e → items_in number a ≡ items_in number e.1 ++ ((p, d), ctx) ∷ []
    → IsPutAt k p d ctx (gotos_of number gs) (gotos_of number (slice_set gs k (e.0, a)))
put_in_goto number gs k e a p d ctx below at longer = record {
  symbol = symbol_of number e.0;
  before = items_in number e.1;
  was = rw at (goto_read number gs k e below);
  is = rw (← longer) (map-set (λ f. (symbol_of number f.0, items_in number f.1)) gs k (e.0, a));
}

-- one goto alone stands at a place
pub symbol_at : (gs : List (Symbol × Items)) (k : ℕ) (x y : Symbol) (a : Items) → HasGotoAt gs k x → slice_get gs k ≡ Some (y, a) → y ≡ x
symbol_at gs k x y a h e = one_symbol (slice_get gs k) (x, h.0) (y, a) h.1 e

pub same_at : (gs : List (Symbol × Items)) (k : ℕ) (x y : Symbol) (a : Items) → HasGotoAt gs k x → slice_get gs k ≡ Some (y, a) → slice_get gs k ≡ Some (x, a)
same_at gs k x y a h e = e ∙ ap (λ z. Some (z, a)) (symbol_at gs k x y a h e)

-- the place of a goto is below the length
pub below_of_at :
    {T : Type 0} (number : T → ℕ) (gs : List (code.Symbol T × Goto T)) (k : ℕ) (x : Symbol) → HasGotoAt (gotos_of number gs) k x → k < length gs
below_of_at number gs k x h =
    let below : k < length (gotos_of number gs) = slice_get_within (gotos_of number gs) k (x, h.0) h.1 in
    rw length-map at below

-- the places stay where an item is put into a goto
pub places_put :
    (gs hs : List (Symbol × Items)) (ps : PlacesBySymbol) (k p d : ℕ) (ctx : List Bool) → ArePlacesOf gs ps → IsPutAt k p d ctx gs hs → ArePlacesOf hs ps
places_put gs hs ps k p d ctx h put x on =
    let longer : Items = put.before ++ ((p, d), ctx) ∷ [] in
    let j = h x (on_set gs k x put.symbol put.before longer put.was (rw put.is at on)) in
    (j.0, j.1, rw put.is (at_set gs k j.0 x put.symbol put.before longer put.was j.2))

-- the places of the grammar's symbols
pub has_place : (g : Grammar) (ps : PlacesBySymbol) (x : Symbol) → ArePlacesFor g ps → IsBodySymbol g x → HasPlaceFor ps x
has_place g ps (Rule r) h b = is_there ps.rules.items r (omega (arith, h.rules, b.1))
has_place g ps (Token t) h b = is_there ps.tokens.items t (omega (arith, h.tokens, b))
