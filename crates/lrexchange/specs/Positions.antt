-- positions at which two ways to go on are compared: theirs, which the table refuses, and ours, which it takes
use Rattle.std.specs.Prelude.{◌≡◌, ℕ, ◌+◌, ◌≤◌, List, [], ◌∷◌, ◌++◌, Option, None, Some, length, take}
use Rattle.lrspec.specs.grammars.Grammar.{Symbol, Rule, Grammar, body_of, IsProductionOf}
use Rattle.lrspec.specs.merging.Graph.{Graph, Leads, edge}

-- what stands for symbols that are not known
pub record Mark : Type 0 where
  -- how many of our symbols stand before them
  pub place : ℕ
  -- the symbol to which they are reduced together with the other one behind them
  pub symbol : Symbol
  pub under : Symbol
  -- the state to which they lead
  pub state : ℕ

-- our symbols above those that both stacks have, and a mark among them
pub record Ours : Type 0 where
  pub symbols : List Symbol
  pub mark : Option Mark

-- what they do next
pub data Turn : Type 0 where
  -- they go on
  Even : Turn
  -- the item is open on their stack: they read what derives the rest of its body, and reduce by it
  Open : ℕ → ℕ → Turn
  -- they go on with the token, which we have read
  Ahead : ℕ → Turn
  -- they go on with the token, which we have to read too
  Before : ℕ → Turn
  -- they go on behind the token, which we have to read
  Behind : ℕ → Turn

-- a position: the state to which what both stacks have leads, and what they and we have above that
pub record Position : Type 0 where
  pub turn : Turn
  pub state : ℕ
  pub theirs : List Symbol
  pub ours : Ours

-- reductions alone make the second stack of the first
pub data Reduces (g : Grammar) : List Symbol → List Symbol → Type 0 where
  none : {v : List Symbol} → Reduces g v v
  more :
      {w : List Symbol} (v : List Symbol) (p r : ℕ) → IsProductionOf g p r → Reduces g (v ++ Rule r ∷ []) w
      → Reduces g (v ++ body_of g p) w

-- the symbols are such as the mark stands for, behind these
pub record IsHidden (g : Grammar) (h : Graph) (m : Mark) (before hidden : List Symbol) : Type 0 where
  pub leads : Leads h (before ++ hidden) m.state
  pub reduced : Reduces g ((before ++ hidden) ++ m.under ∷ []) (before ++ m.symbol ∷ [])

-- the stack is one of ours, above the symbols that both have
pub data IsOurs (g : Grammar) (h : Graph) (z : List Symbol) (y : Ours) (v : List Symbol) : Type 0 where
  known : y.mark ≡ None → v ≡ z ++ y.symbols → IsOurs g h z y v
  -- symbols are hidden in it
  marked :
      (m : Mark) (before hidden behind : List Symbol) → y.mark ≡ Some m → m.place ≡ length before
      → y.symbols ≡ before ++ behind → IsHidden g h m (z ++ before) hidden
      → v ≡ ((z ++ before) ++ hidden) ++ behind → IsOurs g h z y v

-- the mark with so many more symbols before it
abbrev pub raised_mark : ℕ → Option Mark → Option Mark
raised_mark n None = None
raised_mark n (Some m) = Some (record m { place = n + m.place })

-- ours with some of what both have
abbrev pub raised : List Symbol → Ours → Ours
raised c y = record { symbols = c ++ y.symbols; mark = raised_mark (length c) y.mark }

-- ours with symbols behind them
abbrev pub pushed : Ours → List Symbol → Ours
pushed y xs = record y { symbols = y.symbols ++ xs }

-- following the edges on the symbols from the first state ends in the second
pub data Follows (h : Graph) : ℕ → List Symbol → ℕ → Type 0 where
  here : {s : ℕ} → Follows h s [] s
  there : {s u v : ℕ} {x : Symbol} {xs : List Symbol} → edge h s x ≡ Some u → Follows h u xs v → Follows h s (x ∷ xs) v

-- the beginning of the position that both stacks have is counted to what is not named: it is the same comparison
pub record Sinks (h : Graph) (above below : Position) : Type 0 where
  pub both : List Symbol
  pub turn : above.turn ≡ below.turn
  pub theirs : above.theirs ≡ both ++ below.theirs
  pub ours : above.ours ≡ raised both below.ours
  pub leads : Follows h above.state both below.state

-- each stack that leads to the state ends with some symbols, below which another state is, such that this holds
abbrev pub EachBelow : Graph → ℕ → (ℕ → List Symbol → Type 0) → Type 0
EachBelow h s Holds =
    (z : List Symbol) → Leads h z s
    → (front : List Symbol) × (c : List Symbol) × (q : ℕ) × (z ≡ front ++ c) × Leads h front q × Holds q c

-- the second stack is the first with a rule in the place of symbols before the dot of an item, which end it and are not among
-- so many first ones
pub record IsCut (g : Grammar) (p d least : ℕ) (stack cut : List Symbol) : Type 0 where
  pub front : List Symbol
  pub rule : ℕ
  pub of_rule : IsProductionOf g p rule
  pub ends : stack ≡ front ++ take d (body_of g p)
  pub is : cut ≡ front ++ Rule rule ∷ []
  pub deep : least ≤ length front

-- below how many of our symbols none are taken away
abbrev pub least_of : Option Mark → ℕ
least_of None = 0
least_of (Some m) = m.place

-- ours, with the symbols before a dot taken away for a rule
abbrev pub OursCut : Grammar → ℕ → ℕ → Ours → Ours → Type 0
OursCut g p d y cut =
    IsCut g p d (least_of y.mark) y.symbols cut.symbols × (cut.mark ≡ y.mark)
