-- item sets whose lookaheads in common are canonical
use Rattle.std.specs.Prelude.{ℕ, List, Contains}
use Rattle.lrspec.specs.grammars.Grammar.{Symbol, Grammar}
use Rattle.lrspec.specs.grammars.CanonicalItems.{Looks}
use Rattle.lrspec.specs.grammars.ItemSets.{Items, LooksIn}
use Rattle.lrspec.specs.merging.WeakCompatibility.{Apart}

-- every two items of `a` that look at one token in `a` both look at one token, perhaps another,
-- after one of the lists
abbrev pub IsShared : Grammar → List (List Symbol) → Items → Type 0
IsShared g ws a =
    (p d q e t : ℕ) → Apart p d q e → LooksIn a p d t → LooksIn a q e t
    → (w : List Symbol) × (u : ℕ) × Contains ws w × Looks g w p d u × Looks g w q e u
