-- which state the construction closes next
use Rattle.std.specs.Prelude.{◌≡◌, ℕ, ◌+◌, ◌<◌, ◌≤◌, false, List, length}
use Rattle.lrspec.specs.grammars.Grammar.{Symbol, Grammar}
use Rattle.lrspec.specs.grammars.ItemSets.{Items}
use Rattle.lrplacing.specs.Construction.{Draft, closed_at, PlacesAll}
use Rattle.lrplacing.specs.Invariant.{AreClosed}
use Rattle.lrpager.specs.Closing.{ClosesTo}

-- the state `k` is to be closed
abbrev pub IsUnclosed : List Draft → ℕ → Type 0
IsUnclosed ss k = (k < length ss) × (closed_at ss k ≡ false)

-- no state from `from` on is to be closed
abbrev pub NoneUnclosedFrom : List Draft → ℕ → Type 0
NoneUnclosedFrom ss from = (j : ℕ) → from ≤ j → IsUnclosed ss j → ⊥

-- the state `k` is the first one from `from` on that is to be closed
pub record IsFirstUnclosedFrom (ss : List Draft) (from k : ℕ) : Type 0 where
  pub from_on : from ≤ k
  pub unclosed : IsUnclosed ss k
  pub none_before : (j : ℕ) → from ≤ j → j < k → IsUnclosed ss j → ⊥

-- the state is the next one to close: the first from `from` on that is to be closed, or else, where
-- there is none from there on, the first of all
pub data IsNextUnclosed (ss : List Draft) (from : ℕ) : ℕ → Type 0 where
  later : {k : ℕ} → IsFirstUnclosedFrom ss from k → IsNextUnclosed ss from k
  earlier :
      {k : ℕ} → NoneUnclosedFrom ss from → IsFirstUnclosedFrom ss 0 k → IsNextUnclosed ss from k

-- a construction comes from the first states to the second: in each turn the next state is closed
-- and its gotos are placed, and the search for the one after it begins behind it; at the end all
-- states are closed
pub data ClosesAll (g : Grammar) : ℕ → List Draft → List Draft → Type 0 where
  done : {from : ℕ} {ss : List Draft} → AreClosed ss → ClosesAll g from ss ss
  more :
      {from i : ℕ} {ss mid ts us : List Draft} {gs : List (Symbol × Items)}
      → IsNextUnclosed ss from i → ClosesTo g ss i mid gs → PlacesAll i mid gs ts
      → ClosesAll g (i + 1) ts us → ClosesAll g from ss us
