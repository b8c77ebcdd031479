-- what is claimed of positions at which neither we nor they have read more holds
use Rattle.std.proofs.Common.{◌≡◌, ◌≢◌, ℕ, suc, ◌<◌, inl, inr, List, [], ◌∷◌, ◌++◌, length, refl, sym, ap, ◌∙◌, append_assoc, arith}
use Rattle.lrspec.specs.grammars.Grammar.{Symbol, Rule, Grammar, IsGrammar, body_of, rest}
use Rattle.lrspec.specs.grammars.Trees.{forest_leaves}
use Rattle.lrspec.specs.merging.Graph as graph
use Rattle.lrspec.specs.merging.Graph.{Graph, Leads, IsGraphOf}
use Rattle.lrconflicts.specs.Moves.{Move, Reduce, forest_moves}
use Rattle.lrambiguity.specs.Finishing as way
use Rattle.lrambiguity.specs.Finishing.{Finishes}
use Rattle.lrkept.specs.Kept.{GoesOn}
use Rattle.lrexchange.specs.Positions.{Even, Open, Ours, Position, pushed}
use Rattle.lrexchange.specs.Exchanges.{at, EachReduced, EachReducedByBoth, IsDeep, AreWon}
use Rattle.lrkept.proofs.OpenStacks.{Opens, closes, finish_body}
use Rattle.lrkept.proofs.OpenItemsStand.{opens_fewer}
use Rattle.lrkept.proofs.ExchangeStacks.{CutStack, raise_ours, push_ours, cut_ours}
use Rattle.lrkept.proofs.FollowedEdges.{leads_once}
use Rattle.lrkept.proofs.ExchangeTies.{AreAt, level_at}
use Rattle.lrkept.proofs.ExchangeClaims.{Reading, ReadsOn}
use Rattle.lrkept.proofs.ExchangeTurns.{Listed, Holds, cut_theirs, reduced_claim, turn_holds}
use Rattle.lrkept.proofs.ExchangeAnswers as answer
use Rattle.lrkept.proofs.ExchangeAnswers.{OpenAnswer, answered}
use Rattle.lrkept.proofs.ExchangeTrees.{no_leaves, first_tree, goes_same, opens_next, next_fewer, next_read}

-- the text as it is
abbrev pub plainly : List ℕ → List ℕ
plainly w = w

module _ (g : Grammar) where
  -- fewer moves than so many read the text
  abbrev pub Going : ℕ → Reading
  Going n u w = (ms : List Move) × (length ms < n) × Finishes g u ms w

  -- the item is open for such moves
  abbrev pub Opening : ℕ → ℕ → ℕ → Reading
  Opening p d n u w = (ms : List Move) × Opens g u p d ms w × (length ms < n)

  -- the start rule is alone, and the text at its end
  abbrev pub Started : Reading
  Started u w = (u ≡ body_of g g.start_production) × (w ≡ [])

-- from ours we read what derives the rest of the body too, reduce, and go on
read_cut :
    {g : Grammar} {h : Graph} {p d : ℕ} {z u v : List Symbol} {cut : Ours} {ms : List Move} {w : List ℕ}
    → (s : CutStack g h p d z cut v) → (o : Opens g u p d ms w)
    → GoesOn g (s.front ++ Rule s.rule ∷ []) o.behind → GoesOn g v w
read_cut {p = p} {d = d} s o (ns, f) =
    goes_same s.ends o.texts (forest_moves o.trees ++ Reduce p ∷ ns, finish_body s.front p d s.rule s.of_rule o.forest f)

-- above a position that is deep no stack is empty
pub deep_stack : {h : Graph} (z : List Symbol) (a : Position) → IsDeep a → Leads h z a.state → z ++ a.theirs ≢ []
deep_stack [] a (inl some) leads e = some e
deep_stack [] a (inr some) leads e = some (leads_once leads graph.Leads.start)
deep_stack (x ∷ z) a deep leads e = cc

module _ {g : Grammar} {h : Graph} (shape : IsGrammar g) (k : IsGraphOf g h) (positions : List Position) (won : AreWon g h positions) where
  -- the start item is open
  pub start_holds : Holds g h positions (Open g.start_production (length (body_of g g.start_production))) (Started g) plainly
  start_holds =
      turn_holds g h positions won _ (Started g) plainly
      (λ l u w i. ([], rw (i.0, i.1) way.Finishes.done))
      (λ a is proceeds. absurd ((answered is proceeds).0 refl))

  module _ (n : ℕ) (even : Holds g h positions Even (Going g n) plainly)
      (opens : (p d : ℕ) → Holds g h positions (Open p d) (Opening g p d n) plainly) where
    module _ {p d : ℕ} (a : Position) {z v : List Symbol} {w : List ℕ} {ms : List Move} (both : AreAt g h a z v)
        (o : Opens g (z ++ a.theirs) p d ms w) (few : length ms < suc n) where
      -- where we reduce too, behind what is behind the dot
      mirrored : EachReducedByBoth g h (Listed g h positions) p d a → GoesOn g v w
      mirrored each =
          let (front, c, q, parts, below, (deep, members)) = each z both.leads in
          let (cut, is_cut, same) = cut_theirs o.rule front c a.theirs o.front deep (ap (λ l. l ++ a.theirs) (sym parts) ∙ o.stack) o.of_rule in
          let (cut_of_ours, is_ours, member) = members cut is_cut in
          let s = cut_ours is_ours (raise_ours front c (rw parts at both.ours)) in
          let there : Going g n (front ++ cut) o.behind = rw same (o.after, omega (arith, few, opens_fewer o), o.finishes) in
          read_cut s o (even _ refl member front (s.front ++ Rule s.rule ∷ []) o.behind (level_at below s.ours (λ t e. cc)) there)

      -- where nothing is behind the dot
      released : rest g p d ≡ [] → EachReduced g h (Listed g h positions) Even p d a → GoesOn g v w
      released none each =
          let on = reduced_claim g h a (Going g n) (ReadsOn g h plainly) each even (λ t e. absurd cc) z v o.behind both
          o.front o.rule o.of_rule o.stack (o.after, omega (arith, few, opens_fewer o), o.finishes) in
          goes_same refl (o.texts ∙ ap (λ l. l ++ o.behind) (no_leaves o.forest none)) on

      -- where we read the same for the symbol behind it
      stepped : (x : Symbol) (xs : List Symbol) → rest g p d ≡ x ∷ xs
          → Listed g h positions (at (Open p (suc d)) a.state (a.theirs ++ x ∷ []) (pushed a.ours (x ∷ []))) → GoesOn g v w
      stepped x xs e member =
          let s = first_tree o.forest e in
          let next = opens_next o x xs e s in
          let there : Opening g p (suc d) n (z ++ (a.theirs ++ x ∷ [])) (forest_leaves s.others ++ o.behind) =
          rw (← append_assoc z a.theirs (x ∷ [])) (_, next, omega (arith, few, next_fewer o x xs s)) in
          next_read o x xs s (opens p (suc d) _ refl member z (v ++ x ∷ []) _ (level_at both.leads (push_ours (x ∷ []) both.ours) (λ t e. cc)) there)

    -- open items
    pub open_hold : (p d : ℕ) → Holds g h positions (Open p d) (Opening g p d (suc n)) plainly
    open_hold p d =
        turn_holds g h positions won (Open p d) (Opening g p d (suc n)) plainly
        (λ l u w i. (i.0, closes i.1))
        (λ a is proceeds z v w both i. elim ((answered is proceeds).1) [
          | answer.OpenAnswer.mirror each ↦ mirrored a both i.1 i.2 each
          | answer.OpenAnswer.release none each ↦ released a both i.1 i.2 none each
          | answer.OpenAnswer.step x xs e member ↦ stepped a both i.1 i.2 x xs e member
        ])
