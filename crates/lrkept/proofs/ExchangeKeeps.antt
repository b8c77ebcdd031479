-- a certificate shows that a move is kept
use Rattle.std.proofs.Common.{◌≡◌, ℕ, suc, ◌<◌, List, [], ◌∷◌, ◌++◌, length, take, refl, sym, ap, ◌∙◌, append-nil, arith, Bool, true, false, Option, None, Some}
use Rattle.std.proofs.lemmas.List.{take_all}
use Rattle.lrspec.specs.grammars.Grammar.{Symbol, Rule, Token, Grammar, IsGrammar, body_of, end_token, IsProductionOf}
use Rattle.lrspec.specs.merging.Graph.{Graph, closed_of, edge, IsGraphOf}
use Rattle.lrspec.specs.tables.Table.{Table, IsTableOf, action_of, cell_by, reductions, accepts_at}
use Rattle.lrspec.specs.tables.Machine.{next_token}
use Rattle.lrspec.proofs.grammars.BodyFacts.{symbol_at_dot}
use Rattle.lrconflicts.specs.Moves.{Move, Shift, Reduce}
use Rattle.lrlosses.specs.Losses.{Takes}
use Rattle.lrambiguity.specs.Finishing as way
use Rattle.lrambiguity.specs.Finishing.{Finishes}
use Rattle.lrkept.specs.Kept.{GoesWith, IsKept, GoesOn}
use Rattle.lrexchange.specs.Positions as position
use Rattle.lrexchange.specs.Positions.{Ahead, Before, Behind, Position}
use Rattle.lrexchange.specs.Exchanges as exchange
use Rattle.lrexchange.specs.Exchanges.{at, EachOwn, Begins, AreWon, IsCertificate}
use Rattle.lrkept.proofs.ExchangeClaims.{ReducesFirst, own_claim}
use Rattle.lrkept.proofs.ExchangeTies.{level_at, none_tied}
use Rattle.lrkept.proofs.ExchangeTurns.{Listed, reduced_claim}
use Rattle.lrkept.proofs.ExchangeOpen.{plainly}
use Rattle.lrkept.proofs.ExchangeReads.{Coming, Looking, with_token, ahead_holds, before_holds, behind_holds}

-- a way on that begins with a reduction
record ReducesBy (g : Grammar) (p : ℕ) (v : List Symbol) (ms : List Move) (text : List ℕ) : Type 0 where
  pub front : List Symbol
  pub rule : ℕ
  pub of_rule : IsProductionOf g p rule
  pub stack : v ++ [] ≡ front ++ take (length (body_of g p)) (body_of g p)
  pub finishes : Finishes g (front ++ Rule rule ∷ []) ms text

reduces_by : {g : Grammar} {p : ℕ} {v : List Symbol} {ms : List Move} {text : List ℕ} → Finishes g v (Reduce p ∷ ms) text → ReducesBy g p v ms text
reduces_by {g} (way.Finishes.reduce v p r i f) = record {
  front = v;
  rule = r;
  of_rule = i;
  stack = append-nil (v ++ body_of g p) ∙ ap (λ l. v ++ l) (sym (take_all (length (body_of g p)) (body_of g p) (omega arith)));
  finishes = f;
}

-- one that begins with a shift
shifts_next :
    {g : Grammar} {t : ℕ} {v : List Symbol} {ms : List Move} {text : List ℕ} → Finishes g v (Shift ∷ ms) text → next_token g text ≡ t
    → (behind : List ℕ) × (text ≡ t ∷ behind) × Finishes g (v ++ Token t ∷ []) ms behind
shifts_next (way.Finishes.shift {text = text} x f) e = (text, ap (λ n. n ∷ text) e, rw e at f)

-- what the cell takes begins a way on
with_shift :
    {g : Grammar} {b : Table} {s t : ℕ} {v : List Symbol} {text behind : List ℕ} → Takes (action_of b s t) Shift → text ≡ t ∷ behind
    → GoesOn g (v ++ Token t ∷ []) behind → GoesWith g b s t v text
with_shift {t = t} takes e (ms, f) = record { move = Shift; others = ms; taken = takes; finishes = rw e (way.Finishes.shift t f) }

with_reduction :
    {g : Grammar} {b : Table} {s t p : ℕ} {v : List Symbol} {text : List ℕ} → Takes (action_of b s t) (Reduce p)
    → (ms : List Move) × Finishes g v (Reduce p ∷ ms) text → GoesWith g b s t v text
with_reduction {p = p} takes (ms, f) = record { move = Reduce p; others = ms; taken = takes; finishes = f }

-- a cell without an edge takes no shift
no_shift : (g : Grammar) (t : ℕ) (ps : List ℕ) (accepts : Bool) → ¬ (Takes (cell_by g t ps None accepts) Shift)
no_shift g t [] true k = elim k [ ]
no_shift g t [] false k = elim k [ ]
no_shift g t (p ∷ ps) accepts k = elim k [ ]

module _ {g : Grammar} {h : Graph} {b : Table} (shape : IsGrammar g) (k : IsGraphOf g h) (o : IsTableOf g h b) {s : ℕ} (below : s < length h) where
  -- no cell takes a shift at the end of the text
  no_shift_at_end : ¬ (Takes (action_of b s (end_token g)) Shift)
  no_shift_at_end takes = go (edge h s (Token (end_token g))) refl (rw (o.cells s (end_token g) below (omega arith)) at takes)
    where
      go : (e : Option ℕ) → edge h s (Token (end_token g)) ≡ e
          → ¬ (Takes (cell_by g (end_token g) (reductions g (closed_of h s) (end_token g)) e (accepts_at g (closed_of h s) (end_token g))) Shift)
      go None i = no_shift g (end_token g) _ _
      go (Some u) i = λ cell.
          let before = (k.gotos.edges s (Token (end_token g))).0 (rw i refl) in
          omega (arith, symbol_at_dot shape before.0 before.1 (Token (end_token g)) before.3)

  -- so where one is taken the text is not at its end
  token_first : {t : ℕ} (text : List ℕ) → Takes (action_of b s t) Shift → next_token g text ≡ t → (behind : List ℕ) × (text ≡ t ∷ behind)
  token_first [] takes e = absurd (no_shift_at_end (rw (← e) at takes))
  token_first (x ∷ text) takes e = (text, ap (λ n. n ∷ text) e)

  module _ (t : ℕ) (positions : List Position) (won : AreWon g h positions) where
    keeps : {theirs ours : Move} → Begins g h s t (Listed g h positions) theirs ours → Takes (action_of b s t) ours → IsKept g h b s t theirs
    keeps (exchange.Begins.shifting p each) takes v text others along next f =
        let (behind, e) = token_first text takes next in
        let r = reduces_by (rw e at f) in
        let n : ℕ = suc (length others) in
        with_shift takes e
        (reduced_claim g h (at (Ahead t) s [] (record { symbols = Token t ∷ []; mark = None })) (Coming g t n) (GoesOn g) each
        (ahead_holds shape k positions won t n)
        (λ i e. (e, refl))
        v (v ++ Token t ∷ []) behind
        (record { leads = along; ours = position.IsOurs.known refl refl; tied = λ i e. none_tied _ refl })
        r.front r.rule r.of_rule r.stack (others, omega arith, r.finishes))
    keeps (exchange.Begins.reducing p each) takes v text others along next f =
        let (behind, e, on) = shifts_next f next in
        with_reduction takes
        (rw e
        (own_claim g h (GoesOn g) (with_token g t) (at (Behind t) s (Token t ∷ []) (record { symbols = []; mark = None })) p each
        (behind_holds shape k positions won t)
        v v behind (level_at along (position.IsOurs.known refl (sym (append-nil v))) (λ i x. cc)) (others, on)))
    keeps (exchange.Begins.both_reducing p q each) takes v text others along next f =
        let r = reduces_by f in
        let n : ℕ = suc (length others) in
        with_reduction takes
        (reduced_claim g h (at (Before t) s [] (record { symbols = []; mark = None })) (Looking g t n) (ReducesFirst g h plainly q) each
        (λ a is own. own_claim g h (Looking g t n) plainly a q own (λ c same member. before_holds shape k positions won t n c (same ∙ is) member))
        (λ i x. absurd cc)
        v v text (level_at along (position.IsOurs.known refl (sym (append-nil v))) (λ i x. cc))
        r.front r.rule r.of_rule r.stack (others, omega arith, next, r.finishes))

-- where positions are won, and lead from the move of theirs to the one that the cell takes, theirs is kept
pub certificate_keeps :
    {g : Grammar} {h : Graph} {b : Table} {s t : ℕ} {theirs ours : Move} {positions : List Position}
    → IsGrammar g → IsGraphOf g h → IsTableOf g h b → s < length h
    → IsCertificate g h s t theirs ours positions → Takes (action_of b s t) ours
    → IsKept g h b s t theirs
certificate_keeps {t = t} {positions = positions} shape k o below certificate takes =
    keeps shape k o below t positions certificate.won certificate.begins takes
