-- what they do next on the token: they shift it, or reduce before it
use Rattle.std.proofs.Common.{◌≡◌, ◌≢◌, ℕ, suc, List, [], ◌∷◌, ◌++◌, length, refl, sym, ap, ◌∙◌, subst, Option, Some}
use Rattle.std.specs.Option.{IsSome}
use Rattle.lrspec.specs.grammars.Grammar.{Symbol, Rule, Token, Grammar, IsGrammar, body_of, IsProductionOf}
use Rattle.lrspec.specs.grammars.Candidates as candidate
use Rattle.lrspec.specs.grammars.ItemSets.{LooksIn}
use Rattle.lrspec.specs.merging.Graph.{Graph, Leads, closed_of, edge, IsGraphOf}
use Rattle.lrspec.specs.tables.Table as table
use Rattle.lrspec.specs.tables.Table.{IsContender}
use Rattle.lrspec.specs.tables.Machine.{next_token}
use Rattle.lrconflicts.specs.Moves.{Move, Shift, Reduce}
use Rattle.lrambiguity.specs.Finishing as way
use Rattle.lrambiguity.specs.Finishing.{Finishes}
use Rattle.lrexchange.specs.Positions.{Turn, Position}
use Rattle.lrexchange.specs.Exchanges.{at, TakesReduction, TakesAllMoves}
use Rattle.lrkept.proofs.OpenItemsStand.{leads_there, first_contends, shift_leads}
use Rattle.lrkept.proofs.ExchangeEdges.{follows_end}

-- the first of the moves from a stack
data FirstMove (g : Grammar) (u : List Symbol) (ms : List Move) (text : List ℕ) : Type 0 where
  ended : u ≡ body_of g g.start_production → text ≡ [] → FirstMove g u ms text
  shifts :
      (t : ℕ) (others : List Move) (behind : List ℕ) → ms ≡ Shift ∷ others → text ≡ t ∷ behind → Finishes g (u ++ Token t ∷ []) others behind
      → FirstMove g u ms text
  reduces :
      (front : List Symbol) (p r : ℕ) (others : List Move) → ms ≡ Reduce p ∷ others → u ≡ front ++ body_of g p → IsProductionOf g p r
      → Finishes g (front ++ Rule r ∷ []) others text → FirstMove g u ms text

move_made : {g : Grammar} {u : List Symbol} {ms : List Move} {text : List ℕ} → Finishes g u ms text → FirstMove g u ms text
move_made way.Finishes.done = ended refl refl
move_made (way.Finishes.shift {ms = ms} {text = text} t f) = shifts t ms text refl refl f
move_made (way.Finishes.reduce {ms = ms} v p r i f) = reduces v p r ms refl refl i f

-- the edge that contends is there
some_edge : (o : Option ℕ) (u : ℕ) → o ≡ Some u → IsSome o
some_edge o u e = rw e refl

-- a reduction that contends is not by the start production, and looks at the token
reduction_looks :
    {g : Grammar} {h : Graph} {s t p : ℕ} → IsContender g h s t (candidate.Candidate.Reduce p)
    → (p ≢ g.start_production) × LooksIn (closed_of h s) p (length (body_of g p)) t
reduction_looks (table.IsContender.reduce differ looks) = (differ, looks)

-- what they do next, where members are asked for all moves
pub data NextMove
    (g : Grammar) (h : Graph) (t : ℕ) (Member : Position → Type 0) (shifted : Turn) (a : Position) (u : List Symbol) (n : ℕ) (text : List ℕ)
    : Type 0 where
  none : u ≡ body_of g g.start_production → text ≡ [] → NextMove g h t Member shifted a u n text
  shift :
      (others : List Move) (behind : List ℕ) → text ≡ t ∷ behind → Member (at shifted a.state (a.theirs ++ Token t ∷ []) a.ours)
      → Finishes g (u ++ Token t ∷ []) others behind → NextMove g h t Member shifted a u n text
  reduce :
      (front : List Symbol) (p r : ℕ) (others : List Move) → suc (length others) ≡ n → u ≡ front ++ body_of g p → IsProductionOf g p r
      → TakesReduction g h Member p a → Finishes g (front ++ Rule r ∷ []) others text → NextMove g h t Member shifted a u n text

module _ {g : Grammar} {h : Graph} (shape : IsGrammar g) (k : IsGraphOf g h) where
  pub next_move :
      {t : ℕ} {Member : Position → Type 0} {shifted : Turn} {a : Position} {z : List Symbol} {ms : List Move} {text : List ℕ}
      → TakesAllMoves g h t Member shifted a → Leads h z a.state → next_token g text ≡ t → Finishes g (z ++ a.theirs) ms text
      → NextMove g h t Member shifted a (z ++ a.theirs) (length ms) text
  next_move {t} {Member} {shifted} {a} {z} {ms} {text} moves leads next f =
      let (u, there) = leads_there shape k f in
      let follows = follows_end z a.theirs leads there in
      elim (move_made f) [
        | ended e i ↦ none e i
        | shifts x others behind e i on ↦
            let same : x ≡ t = ap (next_token g) (sym i) ∙ next in
            let whole : Finishes g (z ++ a.theirs) (Shift ∷ others) (x ∷ behind) = way.Finishes.shift x on in
            let (v, is_edge) = shift_leads shape k there whole in
            let some : IsSome (edge h u (Token t)) = subst (λ n. IsSome (edge h u (Token n))) same (some_edge (edge h u (Token x)) v is_edge) in
            shift others behind (rw same at i) (moves.shift u follows some) (rw same at on)
        | reduces front p r others e i j on ↦
            let looks = reduction_looks (first_contends shape k there (rw e at f)) in
            reduce front p r others (sym (ap length e)) i j (moves.reduce u p follows looks.0 (rw next at looks.1)) on
      ]
