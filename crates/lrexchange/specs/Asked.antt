-- what is asked at a position, step after step
use Rattle.std.specs.Prelude.{◌≡◌, ◌≢◌, ℕ, suc, ◌<◌, ◌≤◌, List, [], ◌∷◌, ◌++◌, Option, None, Some, Contains, length, take, slice_get, ◌⊎◌}
use Rattle.std.specs.Option.{IsSome}
use Rattle.lrspec.specs.grammars.Grammar.{Symbol, Rule, Token, Grammar, end_token, body_of, rest, IsProductionOf}
use Rattle.lrspec.specs.grammars.ItemSets.{HasItem, LooksIn}
use Rattle.lrspec.specs.merging.Graph.{Graph, core_of, closed_of, edge}
use Rattle.lrexchange.specs.Positions.{Mark, Ours, Turn, Even, Open, Ahead, Behind, Position, raised, pushed, Follows, EachBelow, IsCut, OursCut}
use Rattle.lrexchange.specs.Exchanges.{at, EachOwn, IsDeep, TakesReduction, TakesAllMoves, Proceeds, Retreats, IsSame, IsListed}

-- the position with these symbols named, which both stacks have above the state
abbrev pub deepened : Position → ℕ → List Symbol → Position
deepened a q c = at a.turn q (c ++ a.theirs) (raised c a.ours)

-- a step back from each of the states, none of which is the start state, puts the symbol of the edge before those above
pub record AreStepsBack (h : Graph) (old new : List (ℕ × List Symbol)) : Type 0 where
  pub not_start : (q : ℕ) (c : List Symbol) → Contains old (q, c) → q ≢ 0
  pub steps :
      (q r : ℕ) (c : List Symbol) (x : Symbol) → Contains old (q, c) → edge h r x ≡ Some q
      → Contains new (r, x ∷ c)

-- the states with what is above them that were listed are listed
abbrev pub KeepsBelows : List (ℕ × List Symbol) → List (ℕ × List Symbol) → Type 0
KeepsBelows old new = (e : ℕ × List Symbol) → Contains old e → Contains new e

-- each edge of the row leads to what is listed: its symbol before those above
abbrev pub HasSteps : List (Symbol × ℕ) → List Symbol → List (ℕ × List Symbol) → Type 0
HasSteps row c belows = (x : Symbol) (r : ℕ) → Contains row (x, r) → Contains belows (r, x ∷ c)

-- what is below the state is one of these
abbrev pub AreBelow : Graph → ℕ → List (ℕ × List Symbol) → Type 0
AreBelow h s belows = EachBelow h s (λ q c. Contains belows (q, c))

-- the positions that were asked are asked
abbrev pub KeepsPositions : List Position → List Position → Type 0
KeepsPositions old new = (a : Position) → Contains old a → Contains new a

-- what the stack is with a rule in the place of the symbols before the dot; none where it doesn't end so, or not so high
abbrev pub IsCutTo : Grammar → ℕ → ℕ → ℕ → List Symbol → Option (List Symbol) → Type 0
IsCutTo g p d least stack None = (cut : List Symbol) → ¬ (IsCut g p d least stack cut)
IsCutTo g p d least stack (Some cut) = IsCut g p d least stack cut

-- how many symbols are before those with which the list ends; none where it doesn't end so
abbrev pub EndsWith : List Symbol → List Symbol → Option ℕ → Type 0
EndsWith stack end None = (front : List Symbol) → stack ≢ front ++ end
EndsWith stack end (Some n) = (n ≤ length stack) × (stack ≡ take n stack ++ end)

-- what is done above a stack
pub data Act : Type 0 where
  -- they reduce by the item, and then do this
  They : Turn → ℕ → ℕ → Act
  -- they reduce by the item, and so do we
  Both : ℕ → ℕ → Act
  -- we alone reduce by the production
  We : ℕ → Act
  -- they reduce by the production, and the mark stands for what that is made of
  Hide : ℕ → Mark → Act

-- they reduce by the item
pub record AsksThem (g : Grammar) (Member : Position → Type 0) (turn : Turn) (p d : ℕ) (b : Position) : Type 0 where
  pub deep : d ≤ length b.theirs
  pub reduced :
      (cut : List Symbol) → IsCut g p d 0 b.theirs cut → Member (at turn b.state cut b.ours)

-- they reduce by the item, and so do we
pub record AsksBoth (g : Grammar) (Member : Position → Type 0) (p d : ℕ) (b : Position) : Type 0 where
  pub deep : d ≤ length b.theirs
  pub reduced :
      (cut : List Symbol) → IsCut g p d 0 b.theirs cut
      → (ours : Ours) × OursCut g p d b.ours ours × Member (at Even b.state cut ours)

-- we alone reduce
abbrev pub AsksUs : Grammar → (Position → Type 0) → ℕ → Position → Type 0
AsksUs g Member p b =
    (ours : Ours) × OursCut g p (length (body_of g p)) b.ours ours
    × Member (at b.turn b.state b.theirs ours)

-- they go on with a token that we have read
abbrev pub IsAhead : Position → Type 0
IsAhead a = (t : ℕ) × (a.turn ≡ Ahead t)

-- they reduce to one symbol, for which the mark waits behind our symbols
pub record AsksHidden (g : Grammar) (Member : Position → Type 0) (p : ℕ) (m : Mark) (y : List Symbol) (b : Position)
    : Type 0 where
  pub deep : length (body_of g p) ≤ length b.theirs
  pub reduced :
      (cut : List Symbol) → IsCut g p (length (body_of g p)) 0 b.theirs cut
      → (r : ℕ) × IsProductionOf g p r × (cut ≡ Rule r ∷ [])
      × Member (at b.turn b.state cut (record { symbols = y; mark = Some (record m { symbol = Rule r }) }))

-- this is done at a position, of which what is below it is named
abbrev pub Asks : Grammar → (Position → Type 0) → Act → Position → Position → Type 0
Asks g Member (They turn p d) a b = AsksThem g Member turn p d b
Asks g Member (Both p d) a b = AsksBoth g Member p d b
Asks g Member (We p) a b = AsksUs g Member p b
Asks g Member (Hide p m) a b = AsksHidden g Member p m a.ours.symbols b

-- and so above each stack that leads to its state
abbrev pub EachAsked : Grammar → Graph → (Position → Type 0) → Act → Position → Type 0
EachAsked g h Member act a = EachBelow h a.state (λ q c. Asks g Member act a (deepened a q c))

-- and so above those listed
abbrev pub AllAsked : Grammar → (Position → Type 0) → Act → Position → List (ℕ × List Symbol) → Type 0
AllAsked g Member act a belows =
    (q : ℕ) (c : List Symbol) → Contains belows (q, c) → Asks g Member act a (deepened a q c)

-- following the edges on the symbols ends in this state, or in none
abbrev pub EndsIn : Graph → ℕ → List Symbol → Option ℕ → Type 0
EndsIn h s xs None = (u : ℕ) → ¬ (Follows h s xs u)
EndsIn h s xs (Some u) = Follows h s xs u

-- each production but the start production is listed whose complete item in the closed state looks at the token
abbrev pub HasReductionsOn : Grammar → Graph → ℕ → ℕ → List ℕ → Type 0
HasReductionsOn g h u t ps =
    (p : ℕ) → p ≢ g.start_production → LooksIn (closed_of h u) p (length (body_of g p)) t → Contains ps p

-- they shift the token, if they can
abbrev pub TakesShift : Graph → ℕ → (Position → Type 0) → Turn → Position → Type 0
TakesShift h t Member shifted a =
    (u : ℕ) → Follows h a.state a.theirs u → IsSome (edge h u (Token t))
    → Member (at shifted a.state (a.theirs ++ Token t ∷ []) a.ours)

-- at the end of the text they may have come to the start rule
abbrev pub TakesStart : Grammar → ℕ → (Position → Type 0) → Position → Type 0
TakesStart g t Member a =
    t ≡ end_token g
    → Member (at (Open g.start_production (length (body_of g g.start_production))) a.state a.theirs a.ours)

-- they reduce by each of the productions
abbrev pub TakesReductionsBy : Grammar → Graph → (Position → Type 0) → List ℕ → Position → Type 0
TakesReductionsBy g h Member ps a = (p : ℕ) → Contains ps p → TakesReduction g h Member p a

-- they reduce by each production that looks at the token
abbrev pub TakesReductions : Grammar → Graph → ℕ → (Position → Type 0) → Position → Type 0
TakesReductions g h t Member a =
    (u p : ℕ) → Follows h a.state a.theirs u → p ≢ g.start_production
    → LooksIn (closed_of h u) p (length (body_of g p)) t → TakesReduction g h Member p a

-- the position with each item of the core of the state open is one of these
abbrev pub HasEachOpen : Graph → ℕ → Position → List Position → Type 0
HasEachOpen h u a ps =
    (p d : ℕ) → HasItem (core_of h u) p d → Contains ps (at (Open p d) a.state a.theirs a.ours)

-- each item that may be open on their stack is
pub record OpensItems (h : Graph) (Member : Position → Type 0) (a : Position) : Type 0 where
  pub deep : IsDeep a
  pub open_ones :
      (u p d : ℕ) → Follows h a.state a.theirs u → HasItem (core_of h u) p d
      → Member (at (Open p d) a.state a.theirs a.ours)

-- whatever they do with the token, which we have read
pub record GoesAhead (g : Grammar) (h : Graph) (t : ℕ) (Member : Position → Type 0) (a : Position) : Type 0 where
  pub deep : IsDeep a
  pub all : TakesAllMoves g h t Member Even a

-- whatever they do with the token, which we have to read too
pub record GoesBefore (g : Grammar) (h : Graph) (t : ℕ) (Member : Position → Type 0) (a : Position) : Type 0 where
  pub deep : IsDeep a
  pub all : TakesAllMoves g h t Member (Behind t) a
  pub start : TakesStart g t Member a

-- the item is open, and not of the start production
pub record IsOpen (g : Grammar) (a : Position) (p d : ℕ) : Type 0 where
  pub turn : a.turn ≡ Open p d
  pub not_start : p ≢ g.start_production
  pub within : p < length g.productions

-- the symbol behind the dot of the open item is read by both
pub record Steps (g : Grammar) (Member : Position → Type 0) (a : Position) : Type 0 where
  pub p : ℕ
  pub d : ℕ
  pub x : Symbol
  pub xs : List Symbol
  pub item : IsOpen g a p d
  pub behind : rest g p d ≡ x ∷ xs
  pub next : Member (at (Open p (suc d)) a.state (a.theirs ++ x ∷ []) (pushed a.ours (x ∷ [])))

-- we read the token too
pub record ReadsToo (Member : Position → Type 0) (a : Position) : Type 0 where
  pub t : ℕ
  pub turn : a.turn ≡ Behind t
  pub next : Member (at Even a.state a.theirs (pushed a.ours (Token t ∷ [])))

-- the list is these symbols, as many as this, and then the last one
pub record IsBeforeLast (symbols : List Symbol) (place : ℕ) (last : Symbol) (before : List Symbol) : Type 0 where
  pub long : place ≡ length before
  pub is : symbols ≡ before ++ last ∷ []

-- we reduce what the mark hides, with the symbol for which it waits
pub record Unmarks (Member : Position → Type 0) (a : Position) : Type 0 where
  pub m : Mark
  pub before : List Symbol
  pub marked : a.ours.mark ≡ Some m
  pub behind : IsBeforeLast a.ours.symbols m.place m.under before
  pub next : Member (at a.turn a.state a.theirs (record { symbols = before ++ m.symbol ∷ []; mark = None }))

-- at each of the positions we alone reduce by the production
abbrev pub AllOwn : Grammar → Graph → (Position → Type 0) → ℕ → List Position → Type 0
AllOwn g h Member p ps = (a : Position) → Contains ps a → EachOwn g h Member p a

-- the position is won at once, or is one of so many first ones
abbrev pub IsWonOrAmong : List Position → ℕ → Position → Type 0
IsWonOrAmong positions bound b =
    IsSame b ⊎ ((k : ℕ) × (k < bound) × (slice_get positions k ≡ Some b))

-- all the positions are won at once, or are some of so many first ones
abbrev pub AreListed : Graph → List Position → ℕ → List Position → Type 0
AreListed h positions bound asked = (a : Position) → Contains asked a → IsListed h positions bound a

-- positions are added behind the others
abbrev pub AddsPositions : List Position → List Position → Type 0
AddsPositions old new = (more : List Position) × (new ≡ old ++ more)

-- the position at this place is won, as each of a certificate is
abbrev pub IsWonAt : Grammar → Graph → List Position → ℕ → Type 0
IsWonAt g h positions k =
    (a : Position) → slice_get positions k ≡ Some a
    → Proceeds g h (IsListed h positions (length positions)) a
    ⊎ Retreats g h (IsListed h positions k) a

-- and so each of the first ones
abbrev pub AreWonBelow : Grammar → Graph → List Position → ℕ → Type 0
AreWonBelow g h positions n = (k : ℕ) → k < n → IsWonAt g h positions k
