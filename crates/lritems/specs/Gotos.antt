-- the gotos of an item set on all symbols, and how they are made
use Rattle.std.specs.Prelude.{◌≡◌, ℕ, Bool, List, [], ◌∷◌, ◌++◌, Option, Some, IsSome, length, map, slice_get, slice_set, if◌then◌else◌, ◌⊎◌}
use Rattle.std.specs.List.{list_any}
use Rattle.lrgrammar.specs.declared.idx.PIdx.{PIdx}
use Rattle.lrgrammar.specs.declared.idx.SIdx.{SIdx}
use Rattle.lrgrammar.specs.declared.idx.Symbol.{Symbol}
use Rattle.lrgrammar.specs.Symbols.{symbol_of}
use Rattle.lrspec.specs.grammars.Grammar as math
use Rattle.lrspec.specs.grammars.Grammar.{Grammar}
use Rattle.lrspec.specs.grammars.ItemSets.{Items, HasItem, Fits, IsBefore, IsGoto, AreUpwards}
use Rattle.lrspec.specs.merging.Graph.{same_symbol}
use Rattle.lritems.specs.declared.gotos.Goto.{Goto}
use Rattle.lritems.specs.declared.gotos.PlacesBySymbol.{PlacesBySymbol}
use denote.Bor.{Bor}

-- an item by the numbers of its production and its dot, with bits
abbrev pub item_of : {T : Type 0} → (T → ℕ) → PIdx T × SIdx T → List Bool → (ℕ × ℕ) × List Bool
item_of number k v = ((number k.0.0, number k.1.0), v)

-- the items of a goto as they are kept, each with its lookaheads
abbrev pub listed_in : {T : Type 0} → Goto T → List ((PIdx T × SIdx T) × Bor (List Bool))
listed_in a = a.first ∷ a.others.items

-- the items of a goto, each by the numbers of its production and its dot
abbrev pub items_in : {T : Type 0} → (T → ℕ) → Goto T → Items
items_in number a = map (λ e. item_of number e.0 e.1.now) (listed_in a)

-- gotos as plain data, each with its symbol
abbrev pub gotos_of :
    {T : Type 0} → (T → ℕ) → List (Symbol T × Goto T) → List (math.Symbol × Items)
gotos_of number gs = map (λ e. (symbol_of number e.0, items_in number e.1)) gs

-- the item set has an item before the symbol
abbrev pub HasItemBefore : Grammar → Items → math.Symbol → Type 0
HasItemBefore g c x = (p : ℕ) × (d : ℕ) × HasItem c p d × IsBefore g p d x

-- a goto on the symbol is in the list
abbrev pub HasGotoOn : List (math.Symbol × Items) → math.Symbol → Type 0
HasGotoOn [] x = ⊥
HasGotoOn (e ∷ es) x = (x ≡ e.0) ⊎ HasGotoOn es x

-- no symbol has two gotos in the list
abbrev pub AreOnDistinctSymbols : List (math.Symbol × Items) → Type 0
AreOnDistinctSymbols [] = Unit {0}
AreOnDistinctSymbols (e ∷ es) = (HasGotoOn es e.0 → ⊥) × AreOnDistinctSymbols es

-- the symbols, with the first of `y` at the end where it is a new one
abbrev pub with_symbol : List math.Symbol → List math.Symbol → List math.Symbol
with_symbol xs [] = xs
with_symbol xs (x ∷ y) = if list_any (same_symbol x) xs then xs else xs ++ x ∷ []

-- the symbols behind dots, in the order in which the items first show them, with `xs` before them
abbrev pub symbols_shown : Grammar → List math.Symbol → Items → List math.Symbol
symbols_shown g xs [] = xs
symbols_shown g xs (e ∷ es) = symbols_shown g (with_symbol xs (math.rest g e.0.0 e.0.1)) es

-- `a` is the goto of `c` on a symbol before which `c` has an item, and fits the grammar
pub record IsGotoToPlace (g : Grammar) (c : Items) (x : math.Symbol) (a : Items) : Type 0 where
  pub is_goto : IsGoto g c x a
  pub fits : Fits g a
  pub before : HasItemBefore g c x

-- so is each in the list
abbrev pub AreGotosToPlace : Grammar → Items → List (math.Symbol × Items) → Type 0
AreGotosToPlace g c [] = Unit {0}
AreGotosToPlace g c (e ∷ es) = IsGotoToPlace g c e.0 e.1 × AreGotosToPlace g c es

-- the items of each goto in the list come upwards
abbrev pub AllUpwards : List (math.Symbol × Items) → Type 0
AllUpwards [] = Unit {0}
AllUpwards (e ∷ es) = AreUpwards e.1 × AllUpwards es

-- the gotos of `c`: one on each symbol before which `c` has an item, in the order in which the
-- items first show the symbols, and the items of each goto come upwards
pub record AreGotosOf (g : Grammar) (c : Items) (gs : List (math.Symbol × Items)) : Type 0 where
  pub each : AreGotosToPlace g c gs
  pub upwards : AllUpwards gs
  pub distinct : AreOnDistinctSymbols gs
  pub all : (p d : ℕ) (x : math.Symbol) → HasItem c p d → IsBefore g p d x → HasGotoOn gs x
  pub order : map (λ e. e.0) gs ≡ symbols_shown g [] c

-- ---- making them

-- the place that is noted for the symbol, if places are kept for it
abbrev pub noted_at : PlacesBySymbol → math.Symbol → Option ℕ
noted_at ps (math.Rule r) = slice_get ps.rules.items r
noted_at ps (math.Token t) = slice_get ps.tokens.items t

-- a place is kept for the symbol
abbrev pub HasPlaceFor : PlacesBySymbol → math.Symbol → Type 0
HasPlaceFor ps x = IsSome (noted_at ps x)

-- places are kept for the symbols of the grammar
pub record ArePlacesFor (g : Grammar) (ps : PlacesBySymbol) : Type 0 where
  pub rules : length ps.rules.items ≡ length g.rule_names
  pub tokens : length ps.tokens.items ≡ math.token_count g

-- the goto at the place is one on the symbol
abbrev pub HasGotoAt : List (math.Symbol × Items) → ℕ → math.Symbol → Type 0
HasGotoAt gs k x = (a : Items) × (slice_get gs k ≡ Some (x, a))

-- for each symbol on which there is a goto, its place is noted
abbrev pub ArePlacesOf : List (math.Symbol × Items) → PlacesBySymbol → Type 0
ArePlacesOf gs ps =
    (x : math.Symbol) → HasGotoOn gs x → (k : ℕ) × (noted_at ps x ≡ Some k) × HasGotoAt gs k x

-- `new` is `old`, or `old` with an empty goto on the symbol, which had none
abbrev pub IsMadeReady :
    math.Symbol → List (math.Symbol × Items) → List (math.Symbol × Items) → Type 0
IsMadeReady x old new = (new ≡ old) ⊎ ((HasGotoOn old x → ⊥) × (new ≡ old ++ (x, []) ∷ []))

-- `new` is `old` with one item more at the end of the goto at the place `k`
pub record IsPutAt
    (k p d : ℕ) (ctx : List Bool) (old new : List (math.Symbol × Items)) : Type 0 where
  pub symbol : math.Symbol
  pub before : Items
  pub was : slice_get old k ≡ Some (symbol, before)
  pub is : new ≡ slice_set old k (symbol, before ++ ((p, d), ctx) ∷ [])

-- `new` is `old` with one item more at the end of the goto on the symbol, which it begins if there is none
pub record IsPutOn
    (x : math.Symbol) (p d : ℕ) (ctx : List Bool) (old new : List (math.Symbol × Items))
    : Type 0 where
  pub ready : List (math.Symbol × Items)
  pub place : ℕ
  pub made : IsMadeReady x old ready
  pub at : HasGotoAt ready place x
  pub put : IsPutAt place p d ctx ready new
