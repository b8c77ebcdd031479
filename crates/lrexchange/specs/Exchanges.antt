-- how positions are won: what is asked of others, so that whatever they read we can read too
use Rattle.std.specs.Prelude.{◌≡◌, ◌≢◌, ℕ, suc, ◌<◌, ◌≤◌, List, [], ◌∷◌, ◌++◌, None, Some, length, slice_get, ◌⊎◌}
use Rattle.std.specs.Option.{IsSome}
use Rattle.lrspec.specs.grammars.Grammar.{Symbol, Rule, Token, Grammar, end_token, body_of, rest, IsProductionOf}
use Rattle.lrspec.specs.grammars.ItemSets.{HasItem, LooksIn}
use Rattle.lrspec.specs.merging.Graph.{Graph, core_of, closed_of, edge}
use Rattle.lrconflicts.specs.Moves.{Move, Shift, Reduce}
use Rattle.lrexchange.specs.Positions.{Mark, Ours, Turn, Even, Open, Ahead, Before, Behind, Position, raised, pushed, Follows, Sinks, EachBelow, IsCut, OursCut}

-- the position at this turn, with these stacks above this state
abbrev pub at : Turn → ℕ → List Symbol → Ours → Position
at turn s x y = record { turn = turn; state = s; theirs = x; ours = y }

-- they reduce by the item, and nothing is done with ours: above each stack that leads to the state, where the symbols before the
-- dot end theirs, the position behind that is a member
abbrev pub EachReduced : Grammar → Graph → (Position → Type 0) → Turn → ℕ → ℕ → Position → Type 0
EachReduced g h Member turn p d a =
    EachBelow h a.state (λ q c. (d ≤ length (c ++ a.theirs))
    × ((cut : List Symbol) → IsCut g p d 0 (c ++ a.theirs) cut → Member (at turn q cut (raised c a.ours))))

-- and so where we reduce by it too
abbrev pub EachReducedByBoth : Grammar → Graph → (Position → Type 0) → ℕ → ℕ → Position → Type 0
EachReducedByBoth g h Member p d a =
    EachBelow h a.state (λ q c. (d ≤ length (c ++ a.theirs))
    × ((cut : List Symbol) → IsCut g p d 0 (c ++ a.theirs) cut
    → (ours : Ours) × OursCut g p d (raised c a.ours) ours × Member (at Even q cut ours)))

-- we alone reduce by the production: above each stack that leads to the state the position behind that is a member
abbrev pub EachOwn : Grammar → Graph → (Position → Type 0) → ℕ → Position → Type 0
EachOwn g h Member p a =
    EachBelow h a.state (λ q c. (ours : Ours) × OursCut g p (length (body_of g p)) (raised c a.ours) ours
    × Member (at a.turn q (c ++ a.theirs) ours))

-- they reduce to one symbol by the production; what it is made of needn't be known: the mark stands for it
abbrev pub EachMarked : Grammar → Graph → (Position → Type 0) → ℕ → Mark → Position → Type 0
EachMarked g h Member p m a =
    EachBelow h a.state (λ q c. (length (body_of g p) ≤ length (c ++ a.theirs))
    × ((cut : List Symbol) → IsCut g p (length (body_of g p)) 0 (c ++ a.theirs) cut
    → (r : ℕ) × IsProductionOf g p r × (cut ≡ Rule r ∷ [])
    × Member (at a.turn q cut (record { symbols = a.ours.symbols; mark = Some (record m { symbol = Rule r }) }))))

-- the mark stands at the bottom of ours; or ours has none, they have one symbol alone, and this is the first
pub data IsMarkOf (a : Position) (m : Mark) : Type 0 where
  first :
      {x : Symbol} → a.theirs ≡ x ∷ [] → a.ours.mark ≡ None
      → m ≡ record { place = 0; symbol = x; under = x; state = a.state }
      → IsMarkOf a m
  next : a.ours.mark ≡ Some m → m.place ≡ 0 → IsMarkOf a m

-- a reduction by the production, which is theirs before they have read the token, leads to a member
pub data TakesReduction (g : Grammar) (h : Graph) (Member : Position → Type 0) (p : ℕ) (a : Position) : Type 0 where
  plain : EachReduced g h Member a.turn p (length (body_of g p)) a → TakesReduction g h Member p a
  marked :
      (m : Mark) (t : ℕ) → a.turn ≡ Ahead t → IsMarkOf a m → EachMarked g h Member p m a
      → TakesReduction g h Member p a

-- whatever they do next, on the token `t`, leads to a member: they shift it, or reduce by a production that looks at it
pub record TakesAllMoves (g : Grammar) (h : Graph) (t : ℕ) (Member : Position → Type 0) (shifted : Turn) (a : Position)
    : Type 0 where
  pub shift :
      (u : ℕ) → Follows h a.state a.theirs u → IsSome (edge h u (Token t))
      → Member (at shifted a.state (a.theirs ++ Token t ∷ []) a.ours)
  pub reduce :
      (u p : ℕ) → Follows h a.state a.theirs u → p ≢ g.start_production
      → LooksIn (closed_of h u) p (length (body_of g p)) t → TakesReduction g h Member p a

-- some symbol is below the top of each of their stacks
abbrev pub IsDeep : Position → Type 0
IsDeep a = (a.theirs ≢ []) ⊎ (a.state ≢ 0)

-- whatever they do next leads to a member
pub data Proceeds (g : Grammar) (h : Graph) (Member : Position → Type 0) (a : Position) : Type 0 where
  -- some item of the core is open on their stack
  items :
      a.turn ≡ Even → IsDeep a
      → ((u p d : ℕ) → Follows h a.state a.theirs u → HasItem (core_of h u) p d
      → Member (at (Open p d) a.state a.theirs a.ours))
      → Proceeds g h Member a
  -- we read the same behind the dot, and reduce by the item too
  mirror :
      (p d : ℕ) → a.turn ≡ Open p d → p ≢ g.start_production → EachReducedByBoth g h Member p d a
      → Proceeds g h Member a
  -- nothing is behind the dot: they reduce
  release :
      (p d : ℕ) → a.turn ≡ Open p d → p ≢ g.start_production → rest g p d ≡ []
      → EachReduced g h Member Even p d a
      → Proceeds g h Member a
  -- we read the same for the symbol behind the dot
  step :
      (p d : ℕ) (x : Symbol) (xs : List Symbol) → a.turn ≡ Open p d → p ≢ g.start_production → rest g p d ≡ x ∷ xs
      → Member (at (Open p (suc d)) a.state (a.theirs ++ x ∷ []) (pushed a.ours (x ∷ [])))
      → Proceeds g h Member a
  -- they read the token, or reduce before it
  ahead :
      (t : ℕ) → a.turn ≡ Ahead t → IsDeep a → TakesAllMoves g h t Member Even a
      → Proceeds g h Member a
  -- and so where we have not read it either; at the end of the text they may have come to the start rule
  before :
      (t : ℕ) → a.turn ≡ Before t → IsDeep a → TakesAllMoves g h t Member (Behind t) a
      → (t ≡ end_token g
      → Member (at (Open g.start_production (length (body_of g g.start_production))) a.state a.theirs a.ours))
      → Proceeds g h Member a
  -- we read the token too
  read :
      (t : ℕ) → a.turn ≡ Behind t → Member (at Even a.state a.theirs (pushed a.ours (Token t ∷ [])))
      → Proceeds g h Member a

-- we alone reduce, and come to a member
pub data Retreats (g : Grammar) (h : Graph) (Member : Position → Type 0) (a : Position) : Type 0 where
  -- by a production
  own : (p : ℕ) → EachOwn g h Member p a → Retreats g h Member a
  -- what the mark hides, with the symbol for which it waits
  unmark :
      (m : Mark) (before : List Symbol) → a.ours.mark ≡ Some m → m.place ≡ length before
      → a.ours.symbols ≡ before ++ m.under ∷ []
      → Member (at a.turn a.state a.theirs (record { symbols = before ++ m.symbol ∷ []; mark = None }))
      → Retreats g h Member a

-- neither we nor they have read more
pub data IsLevel : Turn → Type 0 where
  evenly : IsLevel Even
  opened : (p d : ℕ) → IsLevel (Open p d)
  before : (t : ℕ) → IsLevel (Before t)

-- they have just what we have
pub record IsSame (a : Position) : Type 0 where
  pub level : IsLevel a.turn
  pub known : a.ours.mark ≡ None
  pub same : a.theirs ≡ a.ours.symbols

-- the position is won at once, or is one of the first `bound` positions
abbrev pub IsListed : Graph → List Position → ℕ → Position → Type 0
IsListed h positions bound a =
    (b : Position) × Sinks h a b
    × (IsSame b ⊎ ((k : ℕ) × (k < bound) × (slice_get positions k ≡ Some b)))

-- each position is won: it leads to listed ones as they go on, or to an earlier one where we alone reduce
abbrev pub AreWon : Grammar → Graph → List Position → Type 0
AreWon g h positions =
    (k : ℕ) (a : Position) → slice_get positions k ≡ Some a
    → Proceeds g h (IsListed h positions (length positions)) a
    ⊎ Retreats g h (IsListed h positions k) a

-- what is asked of a cell for which they make the first move and we the second one
pub data Begins (g : Grammar) (h : Graph) (s t : ℕ) (Member : Position → Type 0) : Move → Move → Type 0 where
  -- they reduce, and we shift
  shifting :
      (p : ℕ)
      → EachReduced g h Member (Ahead t) p (length (body_of g p))
      (at (Ahead t) s [] (record { symbols = Token t ∷ []; mark = None }))
      → Begins g h s t Member (Reduce p) Shift
  -- they shift, and we reduce
  reducing :
      (p : ℕ)
      → EachOwn g h Member p
      (at (Behind t) s (Token t ∷ []) (record { symbols = []; mark = None }))
      → Begins g h s t Member Shift (Reduce p)
  -- they reduce, and we do by another production
  both_reducing :
      (p q : ℕ)
      → EachReduced g h (λ a. EachOwn g h Member q a) (Before t) p (length (body_of g p))
      (at (Before t) s [] (record { symbols = []; mark = None }))
      → Begins g h s t Member (Reduce p) (Reduce q)

-- positions that are won, and show that the second move may be made for the first in the state `s` on the token `t`
pub record IsCertificate (g : Grammar) (h : Graph) (s t : ℕ) (theirs ours : Move) (positions : List Position)
    : Type 0 where
  pub won : AreWon g h positions
  pub begins : Begins g h s t (IsListed h positions (length positions)) theirs ours
