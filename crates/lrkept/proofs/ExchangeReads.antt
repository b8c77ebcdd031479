-- what is claimed of positions at which one of both has read the token, or neither, holds
use Rattle.std.proofs.Common.{◌≡◌, ℕ, zero, suc, ◌<◌, List, [], ◌∷◌, ◌++◌, length, take, refl, sym, ap, ◌∙◌, subst, append_assoc, arith, Some}
use Rattle.std.proofs.lemmas.List.{take_all}
use Rattle.lrspec.specs.grammars.Grammar.{Symbol, Rule, Token, Grammar, IsGrammar, body_of, IsProductionOf, end_token}
use Rattle.lrspec.specs.merging.Graph.{Graph, IsGraphOf}
use Rattle.lrspec.specs.tables.Machine.{next_token}
use Rattle.lrspec.proofs.grammars.BodyFacts.{push_same}
use Rattle.lrconflicts.specs.Moves.{Move, Shift}
use Rattle.lrambiguity.specs.Finishing as way
use Rattle.lrambiguity.specs.Finishing.{Finishes}
use Rattle.lrkept.specs.Kept.{GoesOn}
use Rattle.lrexchange.specs.Positions.{Turn, Even, Open, Ahead, Before, Behind, Mark, Position, IsCut}
use Rattle.lrexchange.specs.Exchanges as exchange
use Rattle.lrexchange.specs.Exchanges.{at, IsMarkOf, EachReduced, EachMarked, TakesReduction, AreWon}
use Rattle.lrkept.proofs.ExchangeStacks.{push_ours}
use Rattle.lrkept.proofs.ExchangeClaims.{Reading}
use Rattle.lrkept.proofs.ExchangeTurns.{Listed, Holds, cut_theirs, reduced_claim, turn_holds}
use Rattle.lrkept.proofs.ExchangeAnswers.{answered}
use Rattle.lrkept.proofs.ExchangeTrees.{goes_same}
use Rattle.lrkept.proofs.ExchangeOpen.{plainly, start_holds}
use Rattle.lrkept.proofs.ExchangeEven.{even_holds}
use Rattle.lrkept.proofs.ExchangeMarks.{marked_ours, mark_stands}
use Rattle.lrkept.proofs.ExchangeTies.{AreAt, level_at, mark_tied}
use Rattle.lrkept.proofs.ExchangeMoves as move
use Rattle.lrkept.proofs.ExchangeMoves.{NextMove, next_move}

module _ (g : Grammar) (t : ℕ) where
  -- fewer moves than so many read the token and the text
  abbrev pub Coming : ℕ → Reading
  Coming n u w = (ms : List Move) × (length ms < n) × Finishes g u ms (t ∷ w)

  -- they read the text, in which the token is next
  abbrev pub Looking : ℕ → Reading
  Looking n u w = (ms : List Move) × (length ms < n) × (next_token g w ≡ t) × Finishes g u ms w

  -- the token comes first
  abbrev pub with_token : List ℕ → List ℕ
  with_token w = t ∷ w

-- what is cut to one symbol is a body
whole_body :
    {g : Grammar} {p : ℕ} {stack cut : List Symbol} (r : ℕ) → IsCut g p (length (body_of g p)) 0 stack cut → cut ≡ Rule r ∷ []
    → stack ≡ body_of g p
whole_body {g} {p} r k one =
    let (empty, same) = push_same k.front [] (Rule k.rule) (Rule r) (sym k.is ∙ one) in
    k.ends ∙ (ap (λ l. l ++ take (length (body_of g p)) (body_of g p)) empty ∙ take_all (length (body_of g p)) (body_of g p) (omega arith))

module _ {g : Grammar} {h : Graph} (shape : IsGrammar g) (k : IsGraphOf g h) (positions : List Position) (won : AreWon g h positions) (t : ℕ) where
  -- behind the token we read it too
  pub behind_holds : Holds g h positions (Behind t) (GoesOn g) (with_token g t)
  behind_holds =
      turn_holds g h positions won (Behind t) (GoesOn g) (with_token g t)
      (λ l. elim l [ ])
      (λ a is proceeds z v w both theirs.
      let there = level_at both.leads (push_ours (Token t ∷ []) both.ours) (λ i e. cc) in
      let (ms, f) = even_holds shape k positions won _ refl (answered is proceeds) z (v ++ Token t ∷ []) w there theirs in
      (Shift ∷ ms, way.Finishes.shift t f))

  module _ (turn : Turn) (Theirs : Reading) (holds : Holds g h positions turn Theirs plainly) (a : Position) (is : a.turn ≡ turn) where
    -- where they reduce, and the claim holds of what is behind that
    plain_reduced :
        {p : ℕ} → EachReduced g h (Listed g h positions) a.turn p (length (body_of g p)) a
        → (z v : List Symbol) (w : List ℕ) → AreAt g h a z v
        → (f : List Symbol) (r : ℕ) → IsProductionOf g p r → z ++ a.theirs ≡ f ++ body_of g p → Theirs (f ++ Rule r ∷ []) w → GoesOn g v w
    plain_reduced {p} each z v w both f r i stack theirs =
        let all : take (length (body_of g p)) (body_of g p) ≡ body_of g p = take_all (length (body_of g p)) (body_of g p) (omega arith) in
        reduced_claim g h a Theirs (GoesOn g) each (λ b same member. holds b (same ∙ is) member) (λ i e. (e, refl)) z v w both f r i (rw all stack) theirs

  -- where the mark stands for what they reduce
  marked_reduced :
      {p : ℕ} {m : Mark} (Theirs : Reading) → Holds g h positions (Ahead t) Theirs plainly → (a : Position) → a.turn ≡ Ahead t → IsMarkOf a m
      → EachMarked g h (Listed g h positions) p m a
      → (z v : List Symbol) (w : List ℕ) → AreAt g h a z v
      → (f : List Symbol) (r : ℕ) → IsProductionOf g p r → z ++ a.theirs ≡ f ++ body_of g p → Theirs (f ++ Rule r ∷ []) w → GoesOn g v w
  marked_reduced {p} {m} Theirs holds a is mark each z v w both f r i stack theirs =
      let (front, c, q, parts, below, (deep, members)) = each z both.leads in
      let all : take (length (body_of g p)) (body_of g p) ≡ body_of g p = take_all (length (body_of g p)) (body_of g p) (omega arith) in
      let whole : (front ++ c) ++ a.theirs ≡ f ++ take (length (body_of g p)) (body_of g p) = ap (λ l. l ++ a.theirs) (sym parts) ∙ rw all stack in
      let (cut, is_cut, same) = cut_theirs r front c a.theirs f deep whole i in
      let (s, j, one, member) = members cut is_cut in
      let there : AreAt g h (at a.turn q cut (record { symbols = a.ours.symbols; mark = Some (record m { symbol = Rule s }) })) front v = record {
        leads = below;
        ours = marked_ours front c a m p s mark (rw parts at both.leads) (rw parts at (both.tied t is)) (whole_body s is_cut one) j (rw parts at both.ours);
        tied = λ i e. mark_tied _ (record m { symbol = Rule s }) refl (mark_stands a m mark) one;
      } in
      holds _ is member front v w there (subst (λ l. Theirs l w) (sym same) theirs)

  module _ (n : ℕ) (fewer : Holds g h positions (Ahead t) (Coming g t n) plainly) where
    -- where they go on with the token that we have read
    ahead_goes :
        (a : Position) → a.turn ≡ Ahead t → (z v : List Symbol) (w : List ℕ) (ms : List Move) → AreAt g h a z v → length ms < suc n
        → NextMove g h t (Listed g h positions) Even a (z ++ a.theirs) (length ms) (t ∷ w) → GoesOn g v w
    ahead_goes a is z v w ms both few (move.NextMove.none e i) = absurd cc
    ahead_goes a is z v w ms both few (move.NextMove.shift others behind e member f) =
        let same : w ≡ behind = cc in
        let there : Finishes g (z ++ (a.theirs ++ Token t ∷ [])) others behind = rw (← append_assoc z a.theirs (Token t ∷ [])) f in
        even_holds shape k positions won _ refl member z v w (level_at both.leads both.ours (λ i x. cc)) (others, rw (← same) at there)
    ahead_goes a is z v w ms both few (move.NextMove.reduce front p r others size stack i (exchange.TakesReduction.plain each) f) =
        plain_reduced (Ahead t) (Coming g t n) fewer a is each z v w both front r i stack (others, omega (arith, few, size), f)
    ahead_goes a is z v w ms both few (move.NextMove.reduce front p r others size stack i (exchange.TakesReduction.marked m token turn mark each) f) =
        marked_reduced (Coming g t n) fewer a is mark each z v w both front r i stack (others, omega (arith, few, size), f)

  pub ahead_holds : (n : ℕ) → Holds g h positions (Ahead t) (Coming g t n) plainly
  ahead_holds zero = λ a is listed z v w both i. absurd (omega (arith, i.1))
  ahead_holds (suc n) =
      turn_holds g h positions won (Ahead t) (Coming g t (suc n)) plainly
      (λ l. elim l [ ])
      (λ a is proceeds z v w both i.
      ahead_goes n (ahead_holds n) a is z v w i.0 both i.1 (next_move shape k (answered is proceeds).1 both.leads refl i.2))

  module _ (n : ℕ) (fewer : Holds g h positions (Before t) (Looking g t n) plainly) where
    -- where they go on with the token that we have to read too
    before_goes :
        (a : Position) → a.turn ≡ Before t
        → (t ≡ end_token g → Listed g h positions (at (Open g.start_production (length (body_of g g.start_production))) a.state a.theirs a.ours))
        → (z v : List Symbol) (w : List ℕ) (ms : List Move) → AreAt g h a z v → length ms < suc n → next_token g w ≡ t
        → NextMove g h t (Listed g h positions) (Behind t) a (z ++ a.theirs) (length ms) w → GoesOn g v w
    before_goes a is last z v w ms both few next (move.NextMove.none e i) =
        start_holds shape k positions won _ refl (last (sym next ∙ ap (next_token g) i)) z v w (level_at both.leads both.ours (λ i x. cc)) (e, i)
    before_goes a is last z v w ms both few next (move.NextMove.shift others behind e member f) =
        let there : Finishes g (z ++ (a.theirs ++ Token t ∷ [])) others behind = rw (← append_assoc z a.theirs (Token t ∷ [])) f in
        goes_same refl e (behind_holds _ refl member z v behind (level_at both.leads both.ours (λ i x. cc)) (others, there))
    before_goes a is last z v w ms both few next (move.NextMove.reduce front p r others size stack i (exchange.TakesReduction.plain each) f) =
        plain_reduced (Before t) (Looking g t n) fewer a is each z v w both front r i stack (others, omega (arith, few, size), next, f)
    before_goes a is last z v w ms both few next (move.NextMove.reduce front p r others size stack i (exchange.TakesReduction.marked m token turn mark each) f) =
        absurd cc

  pub before_holds : (n : ℕ) → Holds g h positions (Before t) (Looking g t n) plainly
  before_holds zero = λ a is listed z v w both i. absurd (omega (arith, i.1))
  before_holds (suc n) =
      turn_holds g h positions won (Before t) (Looking g t (suc n)) plainly
      (λ l u w i. (i.0, i.3))
      (λ a is proceeds z v w both i.
      let (deep, moves, last) = answered is proceeds in
      before_goes n (before_holds n) a is last z v w i.0 both i.1 i.2 (next_move shape k moves both.leads i.2 i.3))
