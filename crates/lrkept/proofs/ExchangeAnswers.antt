-- what is listed where they go on, turn by turn
use Rattle.std.proofs.Common.{◌≡◌, ◌≢◌, ℕ, suc, List, [], ◌∷◌, ◌++◌, length, sym, subst}
use Rattle.lrspec.specs.grammars.Grammar.{Symbol, Token, Grammar, end_token, body_of, rest}
use Rattle.lrspec.specs.grammars.ItemSets.{HasItem}
use Rattle.lrspec.specs.merging.Graph.{Graph, core_of}
use Rattle.lrexchange.specs.Positions.{Turn, Even, Open, Ahead, Before, Behind, Position, Follows, pushed}
use Rattle.lrexchange.specs.Exchanges as exchange
use Rattle.lrexchange.specs.Exchanges.{at, EachReduced, EachReducedByBoth, TakesAllMoves, IsDeep, Proceeds}

-- where the item is open
pub data OpenAnswer (g : Grammar) (h : Graph) (Member : Position → Type 0) (p d : ℕ) (a : Position) : Type 0 where
  mirror : EachReducedByBoth g h Member p d a → OpenAnswer g h Member p d a
  release : rest g p d ≡ [] → EachReduced g h Member Even p d a → OpenAnswer g h Member p d a
  step :
      (x : Symbol) (xs : List Symbol) → rest g p d ≡ x ∷ xs
      → Member (at (Open p (suc d)) a.state (a.theirs ++ x ∷ []) (pushed a.ours (x ∷ [])))
      → OpenAnswer g h Member p d a

-- at each turn
abbrev pub Answer : Grammar → Graph → (Position → Type 0) → Turn → Position → Type 0
Answer g h Member Even a =
    IsDeep a
    × ((u p d : ℕ) → Follows h a.state a.theirs u → HasItem (core_of h u) p d → Member (at (Open p d) a.state a.theirs a.ours))
Answer g h Member (Open p d) a = (p ≢ g.start_production) × OpenAnswer g h Member p d a
Answer g h Member (Ahead t) a = IsDeep a × TakesAllMoves g h t Member Even a
Answer g h Member (Before t) a =
    IsDeep a × TakesAllMoves g h t Member (Behind t) a
    × (t ≡ end_token g → Member (at (Open g.start_production (length (body_of g g.start_production))) a.state a.theirs a.ours))
Answer g h Member (Behind t) a = Member (at Even a.state a.theirs (pushed a.ours (Token t ∷ [])))

-- where they go on, what is listed is so at their turn
pub answered :
    {g : Grammar} {h : Graph} {Member : Position → Type 0} {turn : Turn} {a : Position} → a.turn ≡ turn → Proceeds g h Member a
    → Answer g h Member turn a
answered {g} {h} {Member} {turn} {a} is proceeds = subst (λ u. Answer g h Member u a) is (go proceeds)
  where
    there : {u : Turn} → a.turn ≡ u → Answer g h Member u a → Answer g h Member a.turn a
    there e k = subst (λ u. Answer g h Member u a) (sym e) k

    go : Proceeds g h Member a → Answer g h Member a.turn a
    go (exchange.Proceeds.items e deep members) = there e (deep, members)
    go (exchange.Proceeds.mirror p d e differ each) = there e (differ, mirror each)
    go (exchange.Proceeds.release p d e differ none each) = there e (differ, release none each)
    go (exchange.Proceeds.step p d x xs e differ next member) = there e (differ, step x xs next member)
    go (exchange.Proceeds.ahead t e deep members) = there e (deep, members)
    go (exchange.Proceeds.before t e deep members last) = there e (deep, members, last)
    go (exchange.Proceeds.read t e member) = there e member
