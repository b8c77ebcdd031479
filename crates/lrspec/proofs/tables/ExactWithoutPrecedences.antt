-- without precedences graphs and tables are exact, and tables recognise their grammar
use Rattle.std.proofs.Common.{◌≡◌, ◌≢◌, ℕ, ◌<◌, ◌+◌, ◌↔◌, List, [], ◌∷◌, length, refl, sym, ap, ◌∙◌, None, Some, arith}
use Rattle.lrspec.specs.grammars.Grammar.{Symbol, Rule, Token, Grammar, IsGrammar, end_token, body_of}
use Rattle.lrspec.specs.grammars.CanonicalItems.{Stands}
use Rattle.lrspec.specs.grammars.Candidates as candidate
use Rattle.lrspec.specs.grammars.Candidates.{Candidate, IsCandidate, IsContested, IsUncontested}
use Rattle.lrspec.specs.grammars.Trees.{nodes}
use Rattle.lrspec.specs.merging.Graph.{Graph, closed_of, edge, IsGraphOf, AreShared, Leads}
use Rattle.lrspec.specs.tables.Table as table
use Rattle.lrspec.specs.tables.Table.{reductions, IsContender, IsCrowded, NoCellIsCrowded, reduce_reduce_of, shift_reduce_of, AcceptsAndReduces, Table, IsTableOf, IsTableFor, IsUncrowded}
use Rattle.lrspec.proofs.tables.MachineTheorems.{never_stuck, sound, complete, one_tree}
use Rattle.lrspec.specs.tables.Conflicts.{HasNoConflicts, IsAcceptContested}
use Rattle.lrspec.specs.tables.LrTables.{HasNoPrecedences, ListsNothing, Recognises, IsExactAnswer}
use Rattle.lrspec.proofs.grammars.BodyFacts.{symbol_at_dot}
use Rattle.lrspec.proofs.grammars.CanonicalItemFacts.{stands_of_looks, start_looks_end}
use Rattle.lrspec.proofs.merging.RootedCores.{rooted_closes_looks}
use Rattle.lrspec.proofs.grammars.ListMembers.{contains_from_among, nothing_among}
use Rattle.lrspec.proofs.tables.CellFacts.{among_reductions}
use Rattle.lrspec.proofs.tables.ListedConflicts.{two_listed, mix_listed}
use Rattle.lrspec.proofs.tables.ConflictsAreContested.{IsCompleteIn, reductions_contested, shifts_contested, accept_contested, accepts_where_contested}
use Rattle.lrspec.proofs.merging.StatesHoldWhatStands.{leads_below, value_of_some}
use Rattle.lrspec.proofs.tables.MachineStacks.{look_fits}

same_production : {p q : ℕ} → candidate.Candidate.Reduce p ≡ candidate.Candidate.Reduce q → p ≡ q
same_production e = cc

module _ (g : Grammar) (h : Graph) (grammar : IsGrammar g) (m : IsGraphOf g h) where
  -- no edge is on the end token
  no_shift_at_end : (s t u : ℕ) → edge h s (Token t) ≡ Some u → t ≡ end_token g → ⊥
  no_shift_at_end s t u e i =
      let (p, d, k, before) = (m.gotos.edges s (Token t)).0 (rw e refl) in
      let below = symbol_at_dot grammar p d (Token t) before in
      omega (arith, below, i)

  -- the complete start production looks at the end token alone
  accept_at_end : (s t : ℕ) → s < length h → IsCompleteIn g h s g.start_production t → t ≡ end_token g
  accept_at_end s t l i =
      let closes = rooted_closes_looks (m.hold.rooted s l).1 (m.closures.closures s l) in
      let (w, k, look) = (closes g.start_production (length (body_of g g.start_production)) t).0 i in
      start_looks_end grammar (length (body_of g g.start_production)) look

  module _ (plain : HasNoPrecedences g) (free : HasNoConflicts g h) where
    shift_and_reduce : (s t u p : ℕ) → s < length h → edge h s (Token t) ≡ Some u → p ≢ g.start_production → IsCompleteIn g h s p t → ⊥
    shift_and_reduce s t u p l e n k =
        let (below, token) = look_fits (closed_of h s) p (length (body_of g p)) t (m.closures.fit_closed s l) k in
        mix_listed g h s t p u l token (plain t) e (among_reductions g (closed_of h s) t p below n k) free.shift_reduce

    reduce_and_reduce :
        (s t p q : ℕ) → s < length h → p ≢ q → p ≢ g.start_production → IsCompleteIn g h s p t
        → q ≢ g.start_production → IsCompleteIn g h s q t → ⊥
    reduce_and_reduce s t p q l x n i o j =
        let (below, token) = look_fits (closed_of h s) p (length (body_of g p)) t (m.closures.fit_closed s l) i in
        let (other, same) = look_fits (closed_of h s) q (length (body_of g q)) t (m.closures.fit_closed s l) j in
        two_listed g h s t p q l token below other x
        (among_reductions g (closed_of h s) t p below n i) (among_reductions g (closed_of h s) t q other o j) free.reduce_reduce

    accept_and_reduce :
        (s t p : ℕ) → s < length h → IsCompleteIn g h s g.start_production t
        → p ≢ g.start_production → IsCompleteIn g h s p t → ⊥
    accept_and_reduce s t p l i n j =
        let e = accept_at_end s t l i in
        free.no_contest s p (record { below = l; differ = n; accepts = rw e at i; reduces = rw e at j })

    two_contenders : (s t : ℕ) (one other : Candidate) → s < length h → IsContender g h s t one → IsContender g h s t other → one ≢ other → ⊥
    two_contenders s t one other l (table.IsContender.shift e) (table.IsContender.shift f) x = x refl
    two_contenders s t one other l (table.IsContender.shift {u = u} e) (table.IsContender.reduce {p = q} o j) x = shift_and_reduce s t u q l e o j
    two_contenders s t one other l (table.IsContender.shift {u = u} e) (table.IsContender.accept j) x = no_shift_at_end s t u e (accept_at_end s t l j)
    two_contenders s t one other l (table.IsContender.reduce {p = p} n i) (table.IsContender.shift {u = u} f) x = shift_and_reduce s t u p l f n i
    two_contenders s t one other l (table.IsContender.reduce {p = p} n i) (table.IsContender.reduce {p = q} o j) x =
        reduce_and_reduce s t p q l (λ e. x (ap candidate.Candidate.Reduce e)) n i o j
    two_contenders s t one other l (table.IsContender.reduce {p = p} n i) (table.IsContender.accept j) x = accept_and_reduce s t p l j n i
    two_contenders s t one other l (table.IsContender.accept i) (table.IsContender.shift {u = u} f) x = no_shift_at_end s t u f (accept_at_end s t l i)
    two_contenders s t one other l (table.IsContender.accept i) (table.IsContender.reduce {p = q} o j) x = accept_and_reduce s t q l i o j
    two_contenders s t one other l (table.IsContender.accept i) (table.IsContender.accept j) x = x refl

    -- without precedences and conflicts no cell is crowded
    pub no_cell_is_crowded : NoCellIsCrowded g h
    no_cell_is_crowded s t l c = two_contenders s t c.one c.other l c.is_one c.is_other c.differ

  -- what can be done after a list can be done in the state to which it leads
  contender_of_candidate : {w : List Symbol} {s t : ℕ} {c : Candidate} → Leads h w s → IsCandidate g w t c → IsContender g h s t c
  contender_of_candidate {w} {s} {t} l (candidate.IsCandidate.shift {p = p} {d = d} stands before) =
      let k = value_of_some (edge h s (Token t)) ((m.gotos.edges s (Token t)).1 (p, d, (m.hold.closed w s p d l).1 stands, before)) in
      table.IsContender.shift k.1
  contender_of_candidate {w} {s} {t} l (candidate.IsCandidate.reduce {p = p} n look) =
      table.IsContender.reduce n (m.hold.looks w s p (length (body_of g p)) t l look)
  contender_of_candidate {w} {s} {t} l (candidate.IsCandidate.accept look) =
      table.IsContender.accept (m.hold.looks w s g.start_production (length (body_of g g.start_production)) t l look)

  -- a candidate has an item that stands
  item_of_candidate : {w : List Symbol} {t : ℕ} {c : Candidate} → IsCandidate g w t c → (p : ℕ) × (d : ℕ) × Stands g w p d
  item_of_candidate (candidate.IsCandidate.shift {p = p} {d = d} stands before) = (p, d, stands)
  item_of_candidate (candidate.IsCandidate.reduce {p = p} n look) = (p, length (body_of g p), stands_of_looks look)
  item_of_candidate (candidate.IsCandidate.accept look) = (g.start_production, length (body_of g g.start_production), stands_of_looks look)

  -- where no cell is crowded, no token is contested
  pub uncontested_from_cells : NoCellIsCrowded g h → IsUncontested g
  uncontested_from_cells alone w t k =
      let (p, d, stands) = item_of_candidate k.is_one in
      let (s, l) = m.hold.leads w p d stands in
      alone s t (leads_below grammar m.closures m.gotos l) (record {
        one = k.one;
        other = k.other;
        differ = k.differ;
        is_one = contender_of_candidate l k.is_one;
        is_other = contender_of_candidate l k.is_other;
      })

  -- a shared graph of an uncontested grammar has no conflicts
  pub no_conflicts_from_uncontested : AreShared g h → IsUncontested g → HasNoConflicts g h
  no_conflicts_from_uncontested share none = record {
    reduce_reduce = nothing_among (reduce_reduce_of g h) (λ y i.
        let (w, u, n, core, one, other) = reductions_contested g h m share y.0 y.1 y.2 y.3 (contains_from_among y (reduce_reduce_of g h) i) in
        none w u (record {
          one = candidate.Candidate.Reduce y.1;
          other = candidate.Candidate.Reduce y.2;
          differ = λ e. n (same_production e);
          is_one = one;
          is_other = other;
        }));
    shift_reduce = nothing_among (shift_reduce_of g h) (λ y i.
        let (w, core, one, other) = shifts_contested g h m y.0 y.1 y.2 (contains_from_among y (shift_reduce_of g h) i) in
        none w y.0 (record {
          one = candidate.Candidate.Shift;
          other = candidate.Candidate.Reduce y.1;
          differ = λ e. cc;
          is_one = one;
          is_other = other;
        }));
    no_contest = λ s p k.
        let c = (accepts_where_contested g h grammar m p).0 (s, k) in
        none (Rule c.start_rule ∷ []) (end_token g) (accept_contested c);
  }

  -- without precedences: there are no conflicts exactly where the grammar is uncontested
  pub exact_without_precedences : HasNoPrecedences g → AreShared g h → HasNoConflicts g h ↔ IsUncontested g
  exact_without_precedences plain share = (λ free. uncontested_from_cells (no_cell_is_crowded plain free), no_conflicts_from_uncontested share)

  no_conflicts_from_table : (b : Table) → IsTableOf g h b → ListsNothing b → HasNoConflicts g h
  no_conflicts_from_table b k n = record { reduce_reduce = sym k.reduce_reduce ∙ n.0; shift_reduce = sym k.shift_reduce ∙ n.1; no_contest = k.no_contest }

  -- so a table of the graph lists nothing exactly where the grammar is uncontested
  pub tables_exact_without_precedences : HasNoPrecedences g → AreShared g h → (b : Table) → IsTableOf g h b → ListsNothing b ↔ IsUncontested g
  tables_exact_without_precedences plain share b k = (
    λ n. uncontested_from_cells (no_cell_is_crowded plain (no_conflicts_from_table b k n)),
    λ none. let free = no_conflicts_from_uncontested share none in (k.reduce_reduce ∙ free.reduce_reduce, k.shift_reduce ∙ free.shift_reduce),
  )

  -- and where it lists nothing, none of its cells is crowded
  pub uncrowded_without_precedences : HasNoPrecedences g → (b : Table) → IsTableOf g h b → ListsNothing b → IsUncrowded g b
  uncrowded_without_precedences plain b k n = record {
    graph = h;
    graph_of = m;
    table_of = k;
    uncrowded = no_cell_is_crowded plain (no_conflicts_from_table b k n);
  }

  -- so it recognises the grammar
  pub recognises_without_precedences : HasNoPrecedences g → (b : Table) → IsTableOf g h b → ListsNothing b → Recognises g b
  recognises_without_precedences plain b k n =
      let clear = uncrowded_without_precedences plain b k n in
      let for_grammar : IsTableFor g b = record { graph = h; graph_of = m; table_of = k } in
      let right = sound grammar for_grammar in
      let all = complete grammar clear in record {
        sentences = λ text named. (
          λ k. (right k.0 text named k.1).0,
          λ k. (length text + nodes k.tree + 1, (all (length text + nodes k.tree + 1) text k (omega arith)).verdict),
        );
        complete = all;
        sound = right;
        one_tree = one_tree grammar clear;
        never_stuck = never_stuck grammar for_grammar;
      }

  -- the headline of a table of a shared graph
  pub table_answer : AreShared g h → (b : Table) → IsTableOf g h b → IsExactAnswer g (Some b)
  table_answer share b k = record {
    exact = λ plain. tables_exact_without_precedences plain share b k;
    recognises = λ plain. recognises_without_precedences plain b k;
  }

-- the headline where accepting is contested
pub refusal_answer : {g : Grammar} {p : ℕ} → IsAcceptContested g p → IsExactAnswer g None
refusal_answer {g} c = record {
  exact = λ _. (absurd, λ none. none (Rule c.start_rule ∷ []) (end_token g) (accept_contested c));
  recognises = λ _. tt;
}
