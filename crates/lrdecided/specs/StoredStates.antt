-- states that are collected
use Rattle.std.specs.Prelude.{ℕ, Bool, true, false, IsTrue, List, Contains}
use Rattle.lrspec.specs.grammars.Grammar.{Symbol}
use Rattle.lrbits.specs.Bits.{bit}

-- each state whose bit is set is listed
abbrev pub AreSeen : List Bool → List ℕ → Type 0
AreSeen seen states = (s : ℕ) → IsTrue (bit seen s) → Contains states s

-- the states that were listed are listed
abbrev pub KeepsStates : List ℕ → List ℕ → Type 0
KeepsStates old new = (s : ℕ) → Contains old s → Contains new s

-- each state from which one of the edges leads is listed
abbrev pub HasSources : List (Symbol × ℕ) → List ℕ → Type 0
HasSources row states = (x : Symbol) (s : ℕ) → Contains row (x, s) → Contains states s

-- the bit of the state is set, if there is one; the answer tells whether it was not
abbrev pub IsMarked : List Bool → List Bool → ℕ → Bool → Type 0
IsMarked old new n true =
    (was now : List ℕ) → AreSeen old was → KeepsStates was now → Contains now n → AreSeen new now
IsMarked old new n false =
    (states : List ℕ) → AreSeen old states → AreSeen new states × Contains states n
