-- the symbols of gotos come in the order in which the items show them
use Rattle.std.proofs.Common.{◌≡◌, ℕ, zero, suc, Bool, true, false, List, [], ◌∷◌, ◌++◌, Some, map, refl, sym, ap, ◌∙◌, inl, inr}
use Rattle.std.specs.Prelude.{◌||◌, slice_get, slice_set}
use Rattle.std.specs.List.{list_any}
use Rattle.std.proofs.lemmas.List.{map-append}
use Rattle.lrspec.specs.grammars.Grammar.{Symbol, Grammar, rest}
use Rattle.lrspec.specs.grammars.ItemSets.{Items, IsBefore}
use Rattle.lrspec.specs.merging.Graph.{same_symbol}
use Rattle.lritems.specs.Gotos.{with_symbol, symbols_shown, HasGotoOn, HasGotoAt, IsMadeReady, IsPutAt}
use Rattle.lritems.proofs.GotoPlaces.{on_from_at, symbol_at, same_at}
use Rattle.lritems.proofs.SymbolTests.{test_itself, test_apart}

abbrev goto_symbols : List (Symbol × Items) → List Symbol
goto_symbols gs = map (λ e. e.0) gs

-- a symbol that has a goto is found
found : (gs : List (Symbol × Items)) (x : Symbol) → HasGotoOn gs x → list_any (same_symbol x) (goto_symbols gs) ≡ true
found [] x h = absurd h
found (e ∷ gs) x (inl h) = let t : same_symbol x e.0 ≡ true = rw h (test_itself e.0) in rw t refl
found (e ∷ gs) x (inr h) = let f = found gs x h in go (same_symbol x e.0) (list_any (same_symbol x) (goto_symbols gs)) f
  where
    go : (a b : Bool) → b ≡ true → (a || b) ≡ true
    go true b f = refl
    go false b f = f

-- and no other
not_found : (gs : List (Symbol × Items)) (x : Symbol) → (HasGotoOn gs x → ⊥) → list_any (same_symbol x) (goto_symbols gs) ≡ false
not_found [] x n = refl
not_found (e ∷ gs) x n = rw (test_apart x e.0 (λ s. n (inl s)), not_found gs x (λ h. n (inr h))) refl

-- another goto on the same symbol
symbols_set : (gs : List (Symbol × Items)) (k : ℕ) (x : Symbol) (a b : Items) → slice_get gs k ≡ Some (x, a) → goto_symbols (slice_set gs k (x, b)) ≡ goto_symbols gs
symbols_set [] k x a b t = refl
symbols_set (e ∷ gs) zero x a b t = let same : Some e ≡ Some (x, a) = t in let is : e ≡ (x, a) = cc in ap (λ y. y ∷ goto_symbols gs) (ap (λ f. f.0) (sym is))
symbols_set (e ∷ gs) (suc k) x a b t = ap (λ ys. e.0 ∷ ys) (symbols_set gs k x a b t)

-- an item at the end of a body shows no symbol
shows_none : (g : Grammar) (p d : ℕ) (xs : List Symbol) → ((x : Symbol) → IsBefore g p d x → ⊥) → with_symbol xs (rest g p d) ≡ xs
shows_none g p d xs n = go (rest g p d) refl
  where
    go : (y : List Symbol) → rest g p d ≡ y → with_symbol xs y ≡ xs
    go [] e = refl
    go (x ∷ y) e = absurd (n x (y, e))

-- so the symbols come in the same order when it was passed
pub shows_passed :
    (g : Grammar) (p d : ℕ) (ctx : List Bool) (gs : List (Symbol × Items)) (left : Items) (xs : List Symbol) → ((x : Symbol) → IsBefore g p d x → ⊥)
    → symbols_shown g (goto_symbols gs) (((p, d), ctx) ∷ left) ≡ xs → symbols_shown g (goto_symbols gs) left ≡ xs
shows_passed g p d ctx gs left xs n h = ap (λ ys. symbols_shown g ys left) (sym (shows_none g p d (goto_symbols gs) n)) ∙ h

-- a goto that is made ready for an item's symbol
shows_ready :
    (x : Symbol) (y : List Symbol) (k : ℕ) (gs hs : List (Symbol × Items)) → IsMadeReady x gs hs → HasGotoAt hs k x
    → goto_symbols hs ≡ with_symbol (goto_symbols gs) (x ∷ y)
shows_ready x y k gs hs (inl e) at =
    let on : HasGotoOn gs x = on_from_at gs k x (rw e at at) in
    rw (found gs x on) (ap goto_symbols e)
shows_ready x y k gs hs (inr h) at = rw (not_found gs x h.0) (ap goto_symbols h.1 ∙ map-append _ gs ((x, []) ∷ []))

-- and filled
shows_one :
    (g : Grammar) (p d e k : ℕ) (ctx : List Bool) (x : Symbol) (gs hs is : List (Symbol × Items)) → IsBefore g p d x → IsMadeReady x gs hs → HasGotoAt hs k x
    → IsPutAt k p e ctx hs is → with_symbol (goto_symbols gs) (rest g p d) ≡ goto_symbols is
shows_one g p d e k ctx x gs hs is b ready at put =
    let there : slice_get hs k ≡ Some (x, put.before) = same_at hs k x put.symbol put.before at put.was in
    let same : put.symbol ≡ x = symbol_at hs k x put.symbol put.before at put.was in
    rw (b.1, put.is, same) (sym (shows_ready x b.0 k gs hs ready at) ∙ sym (symbols_set hs k x put.before (put.before ++ ((p, e), ctx) ∷ []) there))

-- so the symbols come in the same order when the item was put
pub shows_put :
    (g : Grammar) (p d e k : ℕ) (ctx : List Bool) (x : Symbol) (gs hs is : List (Symbol × Items)) (left : Items) (xs : List Symbol) → IsBefore g p d x
    → IsMadeReady x gs hs → HasGotoAt hs k x → IsPutAt k p e ctx hs is → symbols_shown g (goto_symbols gs) (((p, d), ctx) ∷ left) ≡ xs
    → symbols_shown g (goto_symbols is) left ≡ xs
shows_put g p d e k ctx x gs hs is left xs b ready at put h =
    ap (λ ys. symbols_shown g ys left) (sym (shows_one g p d e k ctx x gs hs is b ready at put)) ∙ h
