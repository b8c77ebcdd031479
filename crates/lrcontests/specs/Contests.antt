-- what is answered for the conflicts of a graph
use Rattle.std.specs.Prelude.{◌≡◌, ◌≢◌, ℕ, ◌<◌, List, Contains, Option, None, Some, length}
use Rattle.lrspec.specs.grammars.Grammar.{Symbol, Grammar}
use Rattle.lrspec.specs.grammars.Candidates.{Shift, Reduce, IsCandidate}
use Rattle.lrspec.specs.merging.Cores.{HasCoreAfter}
use Rattle.lrspec.specs.merging.Graph.{Graph, core_of}
use Rattle.lrspec.specs.merging.WeakCompatibility.{SameItems}
use Rattle.lrsearches.specs.Searches.{Place, IsMet, AreLooking}

-- a grammar and a graph of it
pub record Contested : Type 0 where
  pub grammar : Grammar
  pub graph : Graph

-- after the list, which has the core of the state `s`, both to shift the token `t` and to reduce by
-- the production `p` on it are candidates
pub record IsShiftContest (g : Grammar) (h : Graph) (t p s : ℕ) (w : List Symbol) : Type 0 where
  pub core : HasCoreAfter g w (core_of h s)
  pub shift : IsCandidate g w t Shift
  pub reduce : IsCandidate g w t (Reduce p)

-- after the list, which has the core of the state `s`, to reduce by the production `p` and by `q`,
-- which is another, on the token `t` are both candidates
pub record IsReductionContest (g : Grammar) (h : Graph) (t p q s : ℕ) (w : List Symbol)
    : Type 0 where
  pub differ : p ≢ q
  pub core : HasCoreAfter g w (core_of h s)
  pub first : IsCandidate g w t (Reduce p)
  pub second : IsCandidate g w t (Reduce q)

-- after no list are both candidates of the token
abbrev pub HasNoReductionContest : Grammar → Graph → ℕ → ℕ → ℕ → ℕ → Type 0
HasNoReductionContest g h t p q s = (w : List Symbol) → IsReductionContest g h t p q s w → ⊥

-- after the list, which has the core of the state of the place, what is needed there looks at the
-- token
pub record IsReason (g : Grammar) (h : Graph) (t : ℕ) (a : Place) (w : List Symbol) : Type 0 where
  pub core : HasCoreAfter g w (core_of h a.state)
  pub first : IsMet g t w a.first
  pub second : IsMet g t w a.second

-- there is such a list, or none
abbrev pub IsReasonIfAny : Grammar → Graph → ℕ → Place → Option (List Symbol) → Type 0
IsReasonIfAny g h t a None = (w : List Symbol) → IsReason g h t a w → ⊥
IsReasonIfAny g h t a (Some w) = IsReason g h t a w

-- the place with its needs at another state
abbrev pub at_state : Place → ℕ → Place
at_state a s = record { state = s; first = a.first; second = a.second }

-- the places with these needs at the states below `n` whose core has the same items, at which what
-- is needed looks at the token
pub record AreStartsBelow (h : Graph) (t : ℕ) (a : Place) (n : ℕ) (ps : List Place) : Type 0 where
  pub needs : (b : Place) → Contains ps b → b ≡ at_state a b.state
  pub below : (b : Place) → Contains ps b → b.state < length h
  pub same : (b : Place) → Contains ps b → SameItems (core_of h a.state) (core_of h b.state)
  pub looking : (b : Place) → Contains ps b → AreLooking h t b
  pub all :
      (s : ℕ) → s < n → SameItems (core_of h a.state) (core_of h s) → AreLooking h t (at_state a s)
      → Contains ps (at_state a s)
