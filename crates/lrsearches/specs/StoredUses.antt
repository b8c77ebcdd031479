-- where the items that stand before rules are stored
use Rattle.std.specs.Prelude.{◌≡◌, ℕ, ◌<◌, List, map, Contains, length, slice_index_or}
use Rattle.std.specs.declared.vec.Vec.{Vec}
use Rattle.std.specs.declared.alloc.Global.{Global}
use Rattle.lrspec.specs.grammars.Grammar.{Symbol, Grammar}
use Rattle.lrgrammar.specs.declared.idx.PIdx.{PIdx}
use Rattle.lrgrammar.specs.declared.idx.SIdx.{SIdx}
use Rattle.lrsearches.specs.Rests.{HasBehind}

-- items by production and dot
abbrev pub keys_of : {T : Type 0} → (T → ℕ) → List (PIdx T × SIdx T) → List (ℕ × ℕ)
keys_of number ks = map (λ k. (number k.0.0, number k.1.0)) ks

-- all items that stand before the rule are among these
abbrev pub HasUsesOfRule : Grammar → ℕ → List (ℕ × ℕ) → Type 0
HasUsesOfRule g r ks =
    (p d : ℕ) (y : List Symbol) → p < length g.productions → HasBehind g p d r y
    → Contains ks (p, d)

-- the item is in the row of the rule
abbrev pub HasUse :
    {T : Type 0} → (T → ℕ) → List (Vec (PIdx T × SIdx T) Global) → ℕ → ℕ → ℕ → Type 0
HasUse {T} number rows r p d =
    (row : Vec (PIdx T × SIdx T) Global)
    → Contains (keys_of number (slice_index_or rows r row).items) (p, d)

-- the item is in the row of the rule before which it stands, if it stands before one
abbrev pub HasUseOf :
    {T : Type 0} → (T → ℕ) → Grammar → List (Vec (PIdx T × SIdx T) Global) → ℕ → ℕ → Type 0
HasUseOf number g rows p d =
    (r : ℕ) (y : List Symbol) → HasBehind g p d r y → HasUse number rows r p d

-- each item of the production is
abbrev pub HasUsesOf :
    {T : Type 0} → (T → ℕ) → Grammar → List (Vec (PIdx T × SIdx T) Global) → ℕ → Type 0
HasUsesOf number g rows p = (d : ℕ) → HasUseOf number g rows p d

-- the rows have what they had
abbrev pub KeepsUses :
    {T : Type 0} → (T → ℕ) → List (Vec (PIdx T × SIdx T) Global)
    → List (Vec (PIdx T × SIdx T) Global) → Type 0
KeepsUses number old new = (r p d : ℕ) → HasUse number old r p d → HasUse number new r p d

-- there is a row for each rule, and the items of all productions are in these
pub record AreUses {T : Type 0} (number : T → ℕ) (g : Grammar)
    (rows : List (Vec (PIdx T × SIdx T) Global)) : Type 0 where
  pub rules : length rows ≡ length g.rule_names
  pub items : (p : ℕ) → p < length g.productions → HasUsesOf number g rows p
