-- maps of items as plain data, and the lookaheads of an item
use Rattle.std.specs.Prelude.{◌≡◌, ℕ, Bool, List, map, Option, None, Some, length}
use Rattle.lrgrammar.specs.declared.idx.PIdx.{PIdx}
use Rattle.lrgrammar.specs.declared.idx.SIdx.{SIdx}
use denote.Bor.{Bor}
use Rattle.lrbits.specs.Bits.{union}
use Rattle.lrspec.specs.grammars.ItemSets.{Items, item_at}

-- the items of a map, each by the numbers of its production and its dot
abbrev pub items_of : {T X : Type 0} → (T → ℕ) → List ((PIdx T × SIdx T) × X) → List ((ℕ × ℕ) × X)
items_of number es = map (λ e. ((number e.0.0.0, number e.0.1.0), e.1)) es

-- the lookaheads of an item together with more; those alone for an item that isn't there
abbrev pub joined : Option (List Bool) → List Bool → List Bool
joined None ctx = ctx
joined (Some old) ctx = union old ctx

-- each item has `n` bits
abbrev pub HaveBits : ℕ → Items → Type 0
HaveBits n a = (p d : ℕ) (v : List Bool) → item_at a p d ≡ Some v → length v ≡ n

-- items whose lookaheads lie elsewhere, each by the numbers of its production and its dot
abbrev pub listed_of :
    {T X : Type 0} → (T → ℕ) → List ((PIdx T × SIdx T) × Bor X) → List ((ℕ × ℕ) × X)
listed_of number es = map (λ e. ((number e.0.0.0, number e.0.1.0), e.1.now)) es
