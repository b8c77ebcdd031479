-- listed conflicts are contested, and so is a state that accepts and reduces
use Rattle.std.proofs.Common.{◌≢◌, ℕ, ◌<◌, [], ◌∷◌, length, refl, ◌∙◌, arith, take_all}
use Rattle.lrspec.specs.grammars.Grammar.{Rule, Token, Grammar, IsGrammar, end_token, body_of}
use Rattle.lrspec.specs.grammars.CanonicalItems.{Looks}
use Rattle.lrspec.specs.grammars.ItemSets.{LooksIn}
use Rattle.lrspec.specs.grammars.Candidates as candidate
use Rattle.lrspec.specs.grammars.Candidates.{IsCandidate, IsContested}
use Rattle.lrspec.specs.merging.Graph.{Graph, core_of, closed_of, IsGraphOf, AreShared, InventsNoConflict}
use Rattle.lrspec.specs.tables.Table.{reduce_reduce_of, shift_reduce_of, AcceptsAndReduces}
use Rattle.lrspec.specs.tables.Conflicts.{AreReductionsContested, AreShiftsContested, IsAcceptContested, IsLeastAcceptContested, IsLeastAcceptReduce, AcceptsWhereContested}
use Rattle.lrspec.proofs.grammars.CanonicalItemFacts.{stands_of_looks, start_stands_after}
use Rattle.lrspec.proofs.grammars.ListMembers.{among_from_contains}
use Rattle.lrspec.proofs.grammars.Closures.{has_of_looks}
use Rattle.lrspec.proofs.merging.RootedCores.{rooted_closes, rooted_closes_looks}
use Rattle.lrspec.proofs.merging.SharingKept.{shared_closure}
use Rattle.lrspec.proofs.tables.CellFacts.{reduction_looks}
use Rattle.lrspec.proofs.tables.ListedConflicts.{listed_pair, listed_mix}
use Rattle.lrspec.proofs.merging.StatesHoldWhatStands.{leads_below}
use Rattle.lrspec.proofs.tables.MachineStacks.{start_body}

-- the complete production looks at the token in the closed state
abbrev pub IsCompleteIn : Grammar → Graph → ℕ → ℕ → ℕ → Type 0
IsCompleteIn g h s p t = LooksIn (closed_of h s) p (length (body_of g p)) t

-- merging invents no conflict
pub invents_no_conflict : (g : Grammar) (h : Graph) → IsGraphOf g h → AreShared g h → InventsNoConflict g h
invents_no_conflict g h m share s p d q e t l x i j =
    let (ws, root, shared) = share s l in
    let (w, u, k, a, b) = shared_closure g ws (core_of h s) root shared (closed_of h s) (m.closures.closures s l) p d q e t x i j in
    (w, u, root.cores w k, a, b)

-- each entry of the list of reduce/reduce conflicts is contested
pub reductions_contested : (g : Grammar) (h : Graph) → IsGraphOf g h → AreShared g h → AreReductionsContested g h
reductions_contested g h m share t p q s i =
    let k = listed_pair g h t p q s (among_from_contains (t, p, q, s) (reduce_reduce_of g h) i) in
    let (n, a) = reduction_looks g (closed_of h s) t p k.first in
    let (o, b) = reduction_looks g (closed_of h s) t q k.second in
    let differ : p ≢ q = λ e. omega (arith, e, k.order) in
    let (w, u, c, x, y) = invents_no_conflict g h m share s p (length (body_of g p)) q (length (body_of g q)) t k.below (λ e z. differ e) a b in
    (w, u, differ, c, candidate.IsCandidate.reduce n x, candidate.IsCandidate.reduce o y)

-- each entry of the list of shift/reduce conflicts is contested
pub shifts_contested : (g : Grammar) (h : Graph) → IsGraphOf g h → AreShiftsContested g h
shifts_contested g h m t p s i =
    let k = listed_mix g h t p s (among_from_contains (t, p, s) (shift_reduce_of g h) i) in
    let (n, a) = reduction_looks g (closed_of h s) t p k.reduces in
    let (ws, root) = m.hold.rooted s k.below in
    let closure = m.closures.closures s k.below in
    let (w, j, look) = (rooted_closes_looks root closure p (length (body_of g p)) t).0 a in
    let (q, e, f, before) = (m.gotos.edges s (Token t)).0 (rw k.leads refl) in
    let stands = (rooted_closes w root j closure q e).0 f in
    (w, root.cores w j, candidate.IsCandidate.shift stands before, candidate.IsCandidate.reduce n look)

-- where accepting and reducing by a production contend, the end token is contested after the start rule alone
pub accept_contested : {g : Grammar} {p : ℕ} (k : IsAcceptContested g p) → IsContested g (Rule k.start_rule ∷ []) (end_token g)
accept_contested {p = p} k = record {
  one = candidate.Candidate.Accept;
  other = candidate.Candidate.Reduce p;
  differ = λ e. cc;
  is_one = candidate.IsCandidate.accept k.accepts;
  is_other = candidate.IsCandidate.reduce k.differ k.reduces;
}

module _ (g : Grammar) (h : Graph) (grammar : IsGrammar g) (m : IsGraphOf g h) where
  -- after each list with the core of a state that has the complete start production there is its body alone
  start_alone :
      (s t p d u : ℕ) → s < length h → IsCompleteIn g h s g.start_production t → LooksIn (closed_of h s) p d u
      → Looks g (body_of g g.start_production) p d u
  start_alone s t p d u l i j =
      let body = body_of g g.start_production in
      let (ws, root) = m.hold.rooted s l in
      let closure = m.closures.closures s l in
      let (w, k, look) = (rooted_closes_looks root closure p d u).0 j in
      let stands = (rooted_closes w root k closure g.start_production (length body)).0 (has_of_looks (closed_of h s) g.start_production (length body) t i) in
      rw (start_stands_after grammar (length body) stands ∙ take_all (length body) body (omega arith)) at look

  contested_from_accepts : (s p : ℕ) → AcceptsAndReduces g h s p → IsAcceptContested g p
  contested_from_accepts s p k =
      let r = grammar.start.0 in let e = start_body grammar in record {
        start_rule = r;
        body = e;
        differ = k.differ;
        accepts = rw (← e) (start_alone s (end_token g) g.start_production (length (body_of g g.start_production)) (end_token g) k.below k.accepts k.accepts);
        reduces = rw (← e) (start_alone s (end_token g) p (length (body_of g p)) (end_token g) k.below k.accepts k.reduces);
      }

  accepts_from_contested : (p : ℕ) → IsAcceptContested g p → (s : ℕ) × AcceptsAndReduces g h s p
  accepts_from_contested p k =
      let (s, l) = m.hold.leads (Rule k.start_rule ∷ []) p (length (body_of g p)) (stands_of_looks k.reduces) in (
        s,
        record {
          below = leads_below grammar m.closures m.gotos l;
          differ = k.differ;
          accepts = m.hold.looks (Rule k.start_rule ∷ []) s g.start_production (length (body_of g g.start_production)) (end_token g) l k.accepts;
          reduces = m.hold.looks (Rule k.start_rule ∷ []) s p (length (body_of g p)) (end_token g) l k.reduces;
        },
      )

  -- a state accepts and reduces by a production exactly where both look at the end token after the start rule alone
  pub accepts_where_contested : AcceptsWhereContested g h
  accepts_where_contested p = (λ k. contested_from_accepts k.0 p k.1, accepts_from_contested p)

  -- the least production by which a state reduces where it accepts is the least with which accepting is contested
  pub least_contested : (p : ℕ) → IsLeastAcceptReduce g h p → IsLeastAcceptContested g p
  least_contested p k = record {
    contested = contested_from_accepts k.some.0 p k.some.1;
    least = λ q c. let (s, a) = accepts_from_contested q c in k.least s q a;
  }

  -- where no state accepts and reduces, accepting is contested with no production
  pub accept_uncontested : ((s p : ℕ) → AcceptsAndReduces g h s p → ⊥) → (p : ℕ) → ¬ (IsAcceptContested g p)
  accept_uncontested none p c = let (s, a) = accepts_from_contested p c in none s p a
