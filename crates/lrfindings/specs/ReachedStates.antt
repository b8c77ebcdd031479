-- the states to which a parser can come where precedences take shifts away
use Rattle.std.specs.Prelude.{◌≡◌, ◌≢◌, ℕ, ◌<◌, ◌==◌, ◌&&◌, not, Bool, true, List, ◌++◌, Some, All, Contains, length}
use Rattle.std.specs.List.{list_any}
use Rattle.std.specs.List.Sorted.{IsPermutation}
use Rattle.lrspec.specs.grammars.Grammar.{Symbol, Rule, Token, Grammar, token_count}
use Rattle.lrspec.specs.merging.Graph.{Graph, edge}
use Rattle.lrpager.specs.Collecting.{IsMarked}
use Rattle.lrverdicts.specs.Listed.{Listing}
use Rattle.lrfindings.specs.declared.cells.Outcome.TheVariants.{Won}
use Rattle.lrfindings.specs.CellConflicts.{Resolution, leaves_shift, conflicts_left, made_at, resolved_in}

-- whether a resolution takes the shift of the token away in the state: the reduction wins, or neither
abbrev pub takes_away : ℕ → ℕ → Resolution → Bool
takes_away s t r = (r.0.3 == s) && (r.0.0 == t) && not (leaves_shift (Won r.1))

-- whether one of them does
abbrev pub is_taken_away : List Resolution → ℕ → ℕ → Bool
is_taken_away rs s t = list_any (takes_away s t) rs

-- the edge of a state on a symbol stays, where it is known which shifts are taken away; all those on rules do
abbrev pub stays : (ℕ → ℕ → Bool) → ℕ → Symbol → Bool
stays taken s (Rule r) = true
stays taken s (Token t) = not (taken s t)

-- the start state is reached, and so is each state to which an edge that stays leads from one that is reached
pub data IsReached (taken : ℕ → ℕ → Bool) (h : Graph) : ℕ → Type 0 where
  start : IsReached taken h 0
  follow :
      {s u : ℕ} (x : Symbol) → IsReached taken h s → edge h s x ≡ Some u → stays taken s x ≡ true
      → IsReached taken h u

-- an edge that stays leads from the one state to the other
abbrev pub StaysTo : (ℕ → ℕ → Bool) → Graph → ℕ → ℕ → Type 0
StaysTo taken h s u = (x : Symbol) × (edge h s x ≡ Some u) × (stays taken s x ≡ true)

-- exactly the states that are reached are marked
pub record AreMarked (taken : ℕ → ℕ → Bool) (h : Graph) (marks : List Bool) : Type 0 where
  pub reached : (s : ℕ) → IsMarked marks s → IsReached taken h s
  pub marked : (s : ℕ) → IsReached taken h s → IsMarked marks s

-- the states of a graph that are reached by what precedences resolve in it
abbrev pub IsReachedIn : Grammar → Graph → ℕ → Type 0
IsReachedIn g h s = IsReached (is_taken_away (resolved_in g h)) h s

-- these are those of a list whose states are reached
pub record AreOfReached {X : Type 0} (IsHere : ℕ → Type 0) (state : X → ℕ) (all these : List X)
    : Type 0 where
  pub others : List X
  pub parted : IsPermutation all (these ++ others)
  pub reached : All (λ x. IsHere (state x)) these
  pub not_reached : All (λ x. ¬ (IsHere (state x))) others

-- the conflicts that precedences leave open in the states that are reached
abbrev pub AreLeft : Grammar → Graph → List Listing → Type 0
AreLeft g h these = AreOfReached (IsReachedIn g h) (λ e. e.3) (conflicts_left g h) these

-- what precedences resolve in the states that are reached
abbrev pub AreResolved : Grammar → Graph → List Resolution → Type 0
AreResolved g h these = AreOfReached (IsReachedIn g h) (λ r. r.0.3) (resolved_in g h) these

-- whether none of these states reduces by the production, which is not the start production
abbrev pub is_unreduced : ℕ → List (ℕ × ℕ) → ℕ → Bool
is_unreduced first reduced p = not (p == first) && not (list_any (λ m. m.1 == p) reduced)

-- no state that is reached reduces by the production, at whatever token
abbrev pub IsNeverReduced : Grammar → Graph → ℕ → Type 0
IsNeverReduced g h p =
    (s t : ℕ) → IsReachedIn g h s → s < length h → t < token_count g → made_at g h s t ≢ Some p

-- the productions by which no state reduces that is reached, but for the start production
pub record AreNeverReduced (g : Grammar) (h : Graph) (ps : List ℕ) : Type 0 where
  pub only : All (IsNeverReduced g h) ps
  pub all :
      (p : ℕ) → p < length g.productions → p ≢ g.start_production → IsNeverReduced g h p
      → Contains ps p
