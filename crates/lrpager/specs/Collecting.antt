-- collecting the states that are reached: marking them, and numbering them anew
use Rattle.std.specs.Prelude.{◌≡◌, ℕ, ◌+◌, ◌<◌, Bool, false, cond, IsTrue, List, [], ◌∷◌, ◌++◌, Some, length, option_map, count_by, slice_index, slice_index_or, take, ◌⊎◌}
use Rattle.lrspec.specs.grammars.Grammar.{Symbol, Grammar}
use Rattle.lrspec.specs.grammars.ItemSets.{Items, HasItem, Fits, IsClosure}
use Rattle.lrspec.proofs.grammars.ListMembers.{Among}
use Rattle.lrspec.specs.merging.Graph.{State, Graph, core_of, closed_of, edge, edge_at}
use Rattle.lrplacing.specs.Construction.{Draft, core_at, edge_from}

-- following edges from the start state ends in the state
pub data Walks (ss : List Draft) : List Symbol → ℕ → Type 0 where
  start : Walks ss [] 0
  follow : {w : List Symbol} {k u : ℕ} (x : Symbol) → Walks ss w k → edge_from ss k x ≡ Some u
      → Walks ss (w ++ x ∷ []) u

-- a state is marked exactly where it is reached
pub record ReachedAreMarked (ss : List Draft) (marks : List Bool) : Type 0 where
  pub length_is : length marks ≡ length ss
  pub reached : (k : ℕ) → IsTrue (slice_index_or marks k false) → (w : List Symbol) × Walks ss w k
  pub marked : (w : List Symbol) (k : ℕ) → Walks ss w k → IsTrue (slice_index_or marks k false)

-- edges of states lead to states
abbrev pub LeadToStates : List Draft → Type 0
LeadToStates ss = (k u : ℕ) (x : Symbol) → edge_from ss k x ≡ Some u → u < length ss

-- ---- marking

-- the state `k` is marked
abbrev pub IsMarked : List Bool → ℕ → Type 0
IsMarked marks k = IsTrue (slice_index_or marks k false)

-- how many states are not marked
abbrev pub unmarked_count : List Bool → ℕ
unmarked_count [] = 0
unmarked_count (b ∷ marks) = cond b 0 1 + unmarked_count marks

-- one of the edges leads to the state `u`
abbrev pub HasTarget : List (Symbol × ℕ) → ℕ → Type 0
HasTarget es u = (x : Symbol) × (edge_at es x ≡ Some u)

-- no states were marked but some of which `P` holds, and exactly these were put among those whose edges are to be followed
pub record MarksOnly (P : ℕ → Type 0) (old : List Bool) (todo : List ℕ) (new : List Bool)
    (rest : List ℕ) : Type 0 where
  pub length_is : length new ≡ length old
  pub still : (k : ℕ) → IsMarked old k → IsMarked new k
  pub only : (k : ℕ) → IsMarked new k → IsMarked old k ⊎ (P k × Among k rest)
  pub waiting : (k : ℕ) → Among k todo → Among k rest
  pub noted : (k : ℕ) → Among k rest → Among k todo ⊎ IsMarked new k
  pub left : unmarked_count new + length rest ≡ unmarked_count old + length todo

-- ---- numbering anew

-- the new number of the state `k`: how many states before it are marked
abbrev pub new_number : List Bool → ℕ → ℕ
new_number marks k = count_by (λ b. b) (take k marks)

-- the list has the new number of each state
pub record AreNewNumbers (marks : List Bool) (numbers : List ℕ) : Type 0 where
  pub length_is : length numbers ≡ length marks
  pub at : (k : ℕ) → k < length marks → slice_index numbers k ≡ new_number marks k

-- the edges lead to different states below `n`
pub record HaveDistinctTargets (n : ℕ) (es : List (Symbol × ℕ)) : Type 0 where
  pub below : (x : Symbol) (u : ℕ) → edge_at es x ≡ Some u → u < n
  pub apart : (x y : Symbol) (u : ℕ) → edge_at es x ≡ Some u → edge_at es y ≡ Some u → x ≡ y

-- each edge leads to the state to which `f` takes the one to which it led
abbrev pub AreRenumbered : (ℕ → ℕ) → List (Symbol × ℕ) → List (Symbol × ℕ) → Type 0
AreRenumbered f old new = (x : Symbol) → edge_at new x ≡ option_map f (edge_at old x)

-- the state has the core of the draft, for its closed state what that closes to, and the draft's edges by new numbers
pub record IsRenumbered (g : Grammar) (f : ℕ → ℕ) (d : Draft) (s : State) : Type 0 where
  pub core : s.core ≡ d.core
  pub closed : IsClosure g d.core s.closed
  pub fits : Fits g s.closed
  pub edges : AreRenumbered f d.edges s.edges

-- the graph has the marked states in their order, with their new numbers; `marks` has a mark or none for each state
pub record IsCollected (g : Grammar) (ss : List Draft) (marks : List Bool) (h : Graph)
    : Type 0 where
  pub below : (k : ℕ) → IsTrue (slice_index_or marks k false) → new_number marks k < length h
  pub cores : (k : ℕ) → IsTrue (slice_index_or marks k false)
      → core_of h (new_number marks k) ≡ core_at ss k
  pub closed : (k : ℕ) → IsTrue (slice_index_or marks k false)
      → IsClosure g (core_at ss k) (closed_of h (new_number marks k))
  pub fits : (k : ℕ) → IsTrue (slice_index_or marks k false)
      → Fits g (closed_of h (new_number marks k))
  pub edges :
      (k : ℕ) (x : Symbol) → IsTrue (slice_index_or marks k false)
      → edge h (new_number marks k) x ≡ option_map (new_number marks) (edge_from ss k x)
  pub only : (s : ℕ) → s < length h
      → (k : ℕ) × IsTrue (slice_index_or marks k false) × (new_number marks k ≡ s)

-- ---- closing the states that are left

-- no item but that of the start production has its dot at 0
abbrev pub OnlyStartsAtZero : Grammar → Items → Type 0
OnlyStartsAtZero g a = (p : ℕ) → HasItem a p 0 → p ≡ g.start_production
