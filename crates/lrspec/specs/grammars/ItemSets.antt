-- item sets, their closures and their gotos
use Rattle.std.specs.Prelude.{◌≡◌, ℕ, suc, ◌<◌, ◌≤◌, Bool, false, if◌then◌else◌, ◌==◌, ◌&&◌, IsTrue, List, [], ◌∷◌, Option, None, Some, length, slice_index_or, ◌↔◌, ◌⊎◌}
use Rattle.std.specs.List.{AllPairs}
use Rattle.std.specs.Option.{IsSome, IsSomeAnd}
use Rattle.lrspec.specs.grammars.Grammar.{Symbol, Rule, Grammar, token_count, body_of, rest, IsProductionOf}
use Rattle.lrspec.specs.grammars.First.{AllNullable, Begins}

-- an item set: its items by production and dot, each with one bit a token, set where the item looks
-- at the token
abbrev pub Items : Type 0
Items = List ((ℕ × ℕ) × List Bool)

-- what is listed at the production `p` and the dot `d`
abbrev pub item_at : {X : Type 0} → List ((ℕ × ℕ) × X) → ℕ → ℕ → Option X
item_at [] p d = None
item_at (e ∷ es) p d = if (p == e.0.0) && (d == e.0.1) then Some e.1 else item_at es p d

-- the item comes before the other: its production does, or it is of the same one and its dot does
abbrev pub Precedes : ℕ × ℕ → ℕ × ℕ → Type 0
Precedes a b = (a.0 < b.0) ⊎ ((a.0 ≡ b.0) × (a.1 < b.1))

-- the items come by production and then dot, upwards, and none twice
abbrev pub AreUpwards : Items → Type 0
AreUpwards a = AllPairs (λ e f. Precedes e.0 f.0) a

-- the item set has the item
abbrev pub HasItem : Items → ℕ → ℕ → Type 0
HasItem a p d = IsSome (item_at a p d)

-- the item set has the item, which looks at the token `t`
abbrev pub LooksIn : Items → ℕ → ℕ → ℕ → Type 0
LooksIn a p d t = IsSomeAnd (item_at a p d) (λ v. IsTrue (slice_index_or v t false))

-- the item exists in the grammar, and has one bit a token
pub record FitsAt (g : Grammar) (p d : ℕ) (v : List Bool) : Type 0 where
  pub production : p < length g.productions
  pub dot : d ≤ length (body_of g p)
  pub bits : length v ≡ token_count g

-- every item of the item set fits the grammar
abbrev pub Fits : Grammar → Items → Type 0
Fits g a = (p d : ℕ) (v : List Bool) → item_at a p d ≡ Some v → FitsAt g p d v

-- each item of `a` is in `b`, and looks at least where it does in `a`
pub record IsContained (a b : Items) : Type 0 where
  pub items : (p d : ℕ) → HasItem a p d → HasItem b p d
  pub looks : (p d t : ℕ) → LooksIn a p d t → LooksIn b p d t

-- an item set is closed under the two rules: every production of a rule before which an item stands
-- is in it, looks at what begins the rest behind the rule and, where that rest is nullable, at what
-- the item looks at
pub record IsClosed (g : Grammar) (c : Items) : Type 0 where
  pub items :
      (p d r q : ℕ) (y : List Symbol)
      → HasItem c p d → rest g p d ≡ Rule r ∷ y → IsProductionOf g q r
      → HasItem c q 0
  pub begins :
      (p d r q t : ℕ) (y : List Symbol)
      → HasItem c p d → rest g p d ≡ Rule r ∷ y → IsProductionOf g q r → Begins g y t
      → LooksIn c q 0 t
  pub inherit :
      (p d r q t : ℕ) (y : List Symbol)
      → LooksIn c p d t → rest g p d ≡ Rule r ∷ y → IsProductionOf g q r → AllNullable g y
      → LooksIn c q 0 t

-- the closure of a core, where the core is seen as a predicate on items: every production of a rule
-- before which an item of the closure stands is in it, at dot 0
pub data ClosedItem (g : Grammar) (Core : ℕ → ℕ → Type 0) : ℕ → ℕ → Type 0 where
  core : {p d : ℕ} → Core p d → ClosedItem g Core p d
  expand :
      {p d r q : ℕ} {y : List Symbol}
      → ClosedItem g Core p d → rest g p d ≡ Rule r ∷ y → IsProductionOf g q r
      → ClosedItem g Core q 0

-- the lookaheads of the closure: those of the core; what begins the rest behind the rule; and,
-- where that rest is nullable, what the item before the rule looks at
pub data ClosedLook
    (g : Grammar) (Core : ℕ → ℕ → Type 0) (CoreLook : ℕ → ℕ → ℕ → Type 0)
    : ℕ → ℕ → ℕ → Type 0 where
  core : {p d t : ℕ} → CoreLook p d t → ClosedLook g Core CoreLook p d t
  begins :
      {p d r q t : ℕ} {y : List Symbol}
      → ClosedItem g Core p d → rest g p d ≡ Rule r ∷ y → IsProductionOf g q r → Begins g y t
      → ClosedLook g Core CoreLook q 0 t
  inherit :
      {p d r q t : ℕ} {y : List Symbol}
      → ClosedLook g Core CoreLook p d t → rest g p d ≡ Rule r ∷ y → IsProductionOf g q r
      → AllNullable g y
      → ClosedLook g Core CoreLook q 0 t

-- `c` is the closure of `a`: the least item set that contains `a` and is closed under the two rules
pub record IsClosure (g : Grammar) (a c : Items) : Type 0 where
  pub items : (p d : ℕ) → HasItem c p d ↔ ClosedItem g (HasItem a) p d
  pub looks : (p d t : ℕ) → LooksIn c p d t ↔ ClosedLook g (HasItem a) (LooksIn a) p d t

-- the symbol `x` stands behind the dot
abbrev pub IsBefore : Grammar → ℕ → ℕ → Symbol → Type 0
IsBefore g p d x = (y : List Symbol) × (rest g p d ≡ x ∷ y)

-- an item before `x`, with its dot moved over `x`
pub data Moved (g : Grammar) (x : Symbol) (Item : ℕ → ℕ → Type 0) : ℕ → ℕ → Type 0 where
  moved : {p d : ℕ} → Item p d → IsBefore g p d x → Moved g x Item p (suc d)

-- `b` is the goto of `a` on `x`: the items before `x`, each with its dot moved by one and its
-- lookaheads
pub record IsGoto (g : Grammar) (a : Items) (x : Symbol) (b : Items) : Type 0 where
  pub items : (p d : ℕ) → HasItem b p d ↔ Moved g x (HasItem a) p d
  pub looks : (p d t : ℕ) → LooksIn b p d t ↔ Moved g x (λ q e. LooksIn a q e t) p d
