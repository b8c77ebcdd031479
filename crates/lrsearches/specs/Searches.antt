-- how a search goes back from a state, over the graph, for a list after which two candidates are real
use Rattle.std.specs.Prelude.{◌≡◌, ℕ, suc, List, ◌∷◌, Contains, Option, None, Some, ◌⊎◌}
use Rattle.lrspec.specs.grammars.Grammar.{Symbol, Rule, Grammar, end_token, rest, IsProductionOf}
use Rattle.lrspec.specs.grammars.First.{AllNullable, Begins}
use Rattle.lrspec.specs.grammars.CanonicalItems.{Looks}
use Rattle.lrspec.specs.grammars.ItemSets.{Items, HasItem, LooksIn}
use Rattle.lrspec.specs.merging.Graph.{Graph, closed_of, edge, Leads}

-- what a candidate still needs of a list: nothing, or that an item looks at the token after it
pub data Need : Type 0 where
  Met : Need
  Look : ℕ → ℕ → Need

-- the list has what is needed
abbrev pub IsMet : Grammar → ℕ → List Symbol → Need → Type 0
IsMet g t w Met = Unit {0}
IsMet g t w (Look p d) = Looks g w p d t

-- where a search is: at a state, with what is needed for each of two candidates
pub record Place : Type 0 where
  pub state : ℕ
  pub first : Need
  pub second : Need

-- the list leads to the state of the place, and has what is needed there
pub record Serves (g : Grammar) (h : Graph) (t : ℕ) (w : List Symbol) (a : Place) : Type 0 where
  pub leads : Leads h w a.state
  pub first : IsMet g t w a.first
  pub second : IsMet g t w a.second

-- among the items, one at dot 0 looks at the token because of one before its rule: what comes behind
-- the rule begins with the token, or is nullable, and then that item must look at the token
pub data Closes (g : Grammar) (c : Items) (t : ℕ) : Need → Need → Type 0 where
  begins :
      {r q : ℕ} {y : List Symbol} (p d : ℕ)
      → HasItem c p d → rest g p d ≡ Rule r ∷ y → IsProductionOf g q r → Begins g y t
      → Closes g c t (Look q 0) Met
  inherit :
      {r q : ℕ} {y : List Symbol} (p d : ℕ)
      → HasItem c p d → rest g p d ≡ Rule r ∷ y → IsProductionOf g q r → AllNullable g y
      → Closes g c t (Look q 0) (Look p d)

-- a dot above 0 goes back by one
pub data GoesBack : Need → Need → Type 0 where
  met : GoesBack Met Met
  look : {p d : ℕ} → GoesBack (Look p (suc d)) (Look p d)

-- a step of a search: what is needed for one candidate is needed for another reason, or the search
-- goes back over an edge, with its symbol
pub data Steps (g : Grammar) (h : Graph) (t : ℕ) : Place → Option Symbol → Place → Type 0 where
  first :
      {s : ℕ} {x y z : Need} → Closes g (closed_of h s) t x z
      → Steps g h t
      (record { state = s; first = x; second = y }) None
      (record { state = s; first = z; second = y })
  second :
      {s : ℕ} {x y z : Need} → Closes g (closed_of h s) t y z
      → Steps g h t
      (record { state = s; first = x; second = y }) None
      (record { state = s; first = x; second = z })
  back :
      {s u : ℕ} {v : Symbol} {x y a b : Need} → edge h s v ≡ Some u → GoesBack x a → GoesBack y b
      → Steps g h t
      (record { state = u; first = x; second = y }) (Some v)
      (record { state = s; first = a; second = b })

-- no step closes what is needed: nothing is, or it is of an item with its dot above 0, or of the
-- start item
pub data IsSettled (g : Grammar) : Need → Type 0 where
  met : IsSettled g Met
  moved : {p d : ℕ} → IsSettled g (Look p (suc d))
  start : IsSettled g (Look g.start_production 0)

-- the empty list has what is needed: nothing is, or the start item is to look at the end token
abbrev pub IsMetAtStart : Grammar → ℕ → Need → Type 0
IsMetAtStart g t Met = Unit {0}
IsMetAtStart g t (Look p d) = (p ≡ g.start_production) × (d ≡ 0) × (t ≡ end_token g)

-- what is needed is nothing, or of an item that looks at the token
abbrev pub IsLooking : Items → ℕ → Need → Type 0
IsLooking c t Met = Unit {0}
IsLooking c t (Look p d) = LooksIn c p d t

-- what is needed for both candidates looks at the token in the closed state
abbrev pub AreLooking : Graph → ℕ → Place → Type 0
AreLooking h t a =
    IsLooking (closed_of h a.state) t a.first × IsLooking (closed_of h a.state) t a.second

-- a place need not be looked at: it was seen, or one at which less is needed
pub data IsCovered (Seen : ℕ → Need → Need → Type 0) (s : ℕ) (x y : Need) : Type 0 where
  seen : Seen s x y → IsCovered Seen s x y
  first_met : Seen s Met y → IsCovered Seen s x y
  second_met : Seen s x Met → IsCovered Seen s x y

-- the steps from a place are covered where what is needed behind them looks at the token: no list
-- serves a place where it does not. The first candidate is closed before the second
pub record AreCovered
    (g : Grammar) (h : Graph) (t : ℕ) (Seen : ℕ → Need → Need → Type 0) (a : Place)
    : Type 0 where
  pub firsts :
      (z : Need) → Closes g (closed_of h a.state) t a.first z
      → IsLooking (closed_of h a.state) t z
      → IsCovered Seen a.state z a.second
  pub seconds :
      (z : Need) → IsSettled g a.first → Closes g (closed_of h a.state) t a.second z
      → IsLooking (closed_of h a.state) t z
      → IsCovered Seen a.state a.first z
  pub backs :
      (s : ℕ) (v : Symbol) (x y : Need)
      → edge h s v ≡ Some a.state → GoesBack a.first x → GoesBack a.second y
      → AreLooking h t (record { state = s; first = x; second = y })
      → IsCovered Seen s x y

-- the empty list serves the place
abbrev pub IsGoal : Grammar → ℕ → Place → Type 0
IsGoal g t a = (a.state ≡ 0) × IsMetAtStart g t a.first × IsMetAtStart g t a.second

-- the place is one of these
abbrev pub Has : List Place → ℕ → Need → Need → Type 0
Has ps s x y = Contains ps (record { state = s; first = x; second = y })

-- a search is finished: no place that it has seen is served by the empty list, and all their steps
-- are covered
pub record IsFinished
    (g : Grammar) (h : Graph) (t : ℕ) (Seen : ℕ → Need → Need → Type 0)
    : Type 0 where
  pub goals :
      (s : ℕ) (x y : Need) → Seen s x y
      → IsGoal g t (record { state = s; first = x; second = y }) → ⊥
  pub covered :
      (s : ℕ) (x y : Need) → Seen s x y
      → AreCovered g h t Seen (record { state = s; first = x; second = y })

-- a step that a place has: its symbol, if it goes back, and to where it leads
abbrev pub Step : Type 0
Step = Option Symbol × Place

-- the step with this need for the first candidate
abbrev pub step_to_first : Place → Need → Step
step_to_first a z = (None, record { state = a.state; first = z; second = a.second })

-- the step with this need for the second candidate
abbrev pub step_to_second : Place → Need → Step
step_to_second a z = (None, record { state = a.state; first = a.first; second = z })

-- these are the steps from the place that count
pub record AreStepsOf (g : Grammar) (h : Graph) (t : ℕ) (a : Place) (es : List Step) : Type 0 where
  pub sound : (e : Step) → Contains es e → Steps g h t a e.0 e.1
  pub looking : (e : Step) → Contains es e → AreLooking h t e.1
  pub covered :
      AreCovered g h t
      (λ s x y. (o : Option Symbol) × Contains es (o, record { state = s; first = x; second = y }))
      a

-- these are the needs that close that of the production's item at dot 0 and count
pub record AreClosesOf
    (g : Grammar) (c : Items) (t p : ℕ) (zs : List Need)
    : Type 0 where
  pub sound : (z : Need) → Contains zs z → Closes g c t (Look p 0) z
  pub looking : (z : Need) → Contains zs z → IsLooking c t z
  pub all :
      (z : Need) → Closes g c t (Look p 0) z → IsLooking c t z
      → Contains zs z ⊎ Contains zs Met

-- the answer of a search that began at these places: a list that serves one of them, or none, and
-- then no list serves one
abbrev pub IsAnswer : Grammar → Graph → ℕ → List Place → Option (List Symbol) → Type 0
IsAnswer g h t ps None = (a : Place) (w : List Symbol) → Contains ps a → Serves g h t w a → ⊥
IsAnswer g h t ps (Some w) = (a : Place) × Contains ps a × Serves g h t w a
