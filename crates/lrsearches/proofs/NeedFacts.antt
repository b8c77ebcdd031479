-- needs that are settled, that go back, and that look at a token
use Rattle.std.proofs.Common.{◌≡◌, ℕ, zero, suc, ◌<◌, Bool, List, None, Some, refl, arith}
use Rattle.std.specs.Prelude.{IsTrue, ◌↔◌}
use Rattle.lrspec.specs.grammars.Grammar.{Grammar}
use Rattle.lrspec.specs.grammars.ItemSets.{Items, item_at, LooksIn}
use Rattle.lrbits.specs.Bits.{bit}
use Rattle.lrsearches.specs.Searches as search
use Rattle.lrsearches.specs.Searches.{Need, Look, GoesBack, IsSettled}

-- what is needed with a dot above 0 is settled
pub settled_moved : (g : Grammar) (p d : ℕ) → 0 < d → IsSettled g (Look p d)
settled_moved g p zero l = absurd (omega arith)
settled_moved g p (suc d) l = search.IsSettled.moved

-- and so is the start item
pub settled_start : (g : Grammar) (p d : ℕ) → p ≡ g.start_production → d ≡ 0 → IsSettled g (Look p d)
settled_start g p d e f = rw (e, f) search.IsSettled.start

-- a dot above 0 goes back
pub back_of_moved : (p d e : ℕ) → d ≡ suc e → GoesBack (Look p d) (Look p e)
back_of_moved p d e k = rw k search.GoesBack.look

-- it goes back in one way
pub back_unique : {x : Need} (y z : Need) → GoesBack x y → GoesBack x z → y ≡ z
back_unique y z search.GoesBack.met search.GoesBack.met = refl
back_unique y z search.GoesBack.look search.GoesBack.look = refl

-- an item that is found looks at the tokens of its bits
pub looks_found : (c : Items) (p d t : ℕ) (v : List Bool) (b : Bool) → item_at c p d ≡ Some v → b ≡ bit v t → IsTrue b ↔ LooksIn c p d t
looks_found c p d t v b e f = rw (e, f) (λ h. h, λ h. h)

-- one that is not found looks at none
pub looks_missing : (c : Items) (p d t : ℕ) → item_at c p d ≡ None → LooksIn c p d t → ⊥
looks_missing c p d t e h = let k = rw e at h in absurd k
