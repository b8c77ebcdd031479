-- where each two contenders are decided, the grammar is unambiguous
use Rattle.std.proofs.Common.{◌≡◌, ◌≢◌, ℕ, List, [], ◌∷◌, ◌++◌, Option, None, Some, length, take, drop, refl, sym, ap, ◌∙◌, append-nil, arith}
use Rattle.std.proofs.lemmas.List.{take_at, drop_at}
use Rattle.std.specs.Option.{IsSome}
use Rattle.lrspec.specs.grammars.Grammar.{Symbol, Rule, Token, Grammar, IsGrammar, end_token, body_of}
use Rattle.lrspec.specs.grammars.Trees.{Tree, Bare, And, leaves, bare, and, IsSentence}
use Rattle.lrspec.specs.grammars.CanonicalItems as item
use Rattle.lrspec.specs.grammars.CanonicalItems.{Stands, Looks}
use Rattle.lrspec.specs.grammars.Candidates as candidate
use Rattle.lrspec.specs.grammars.Candidates.{Candidate, IsCandidate}
use Rattle.lrspec.specs.merging.Graph.{Graph, Leads, IsGraphOf, edge}
use Rattle.lrspec.specs.tables.Table as table
use Rattle.lrspec.specs.tables.Table.{Table, IsContender, IsTableFor}
use Rattle.lrspec.specs.tables.Machine.{next_token}
use Rattle.lrspec.specs.tables.Recognition.{IsUnambiguous}
use Rattle.lrspec.proofs.grammars.BodyFacts.{symbol_at_dot}
use Rattle.lrspec.proofs.grammars.CanonicalItemFacts.{stands_of_looks}
use Rattle.lrconflicts.specs.Moves.{Move, Shift, Reduce, candidate_of, moves_of, IsTreeBy}
use Rattle.lrambiguity.specs.Replays.{Reads}
use Rattle.lrambiguity.proofs.NextMoves.{next_is_candidate}
use Rattle.lrdecided.specs.Contenders.{AcceptsAlone}
use Rattle.lrdecided.specs.Decided.{IsDecided, AreDecided}
use Rattle.lrdecided.proofs.DecidedEntries.{core_below}
use Rattle.lrdecided.proofs.Openings.{halfway}
use Rattle.lrdecided.proofs.SameMoves as moves
use Rattle.lrdecided.proofs.SameMoves.{Comparison, compared, tree_told}

-- an entry is decided whichever move comes first
pub decided_swapped : {g : Grammar} {h : Graph} {s t : ℕ} {m n : Move} → IsDecided g h s t m n → IsDecided g h s t n m
decided_swapped k text before one other a b p first second =
    k text before other one b a
    (record { used = p.used; roots = p.roots; trees = p.trees; reads = p.reads; core = p.core; next = p.next; first = p.second; second = p.first })
    second first

-- what stands after a list where a candidate is told
stands_there : {g : Grammar} {w : List Symbol} {t : ℕ} {x : Candidate} → IsCandidate g w t x → (p : ℕ) × (d : ℕ) × Stands g w p d
stands_there (candidate.IsCandidate.shift {p = p} {d = d} s b) = (p, d, s)
stands_there {g} (candidate.IsCandidate.reduce {p = p} differ l) = (p, length (body_of g p), stands_of_looks l)
stands_there {g} (candidate.IsCandidate.accept l) = (g.start_production, length (body_of g g.start_production), stands_of_looks l)

-- where the tree of a sentence is one by its moves
tree_by : {g : Grammar} {text : List ℕ} (s : IsSentence g text) → IsTreeBy g (moves_of s.tree) text s.tree
tree_by s = record { of_start = record { rule = s.rule; start = s.start; is_tree = s.is_tree }; leaves_are = s.leaves_are; moves_are = refl }

-- in a grammar that has a table nothing contends with accepting
pub accepts_alone : {g : Grammar} {b : Table} → IsTableFor g b → AcceptsAlone g
accepts_alone {g} k p c =
    let hold = k.graph_of.hold in
    let w : List Symbol = Rule c.start_rule ∷ [] in
    let (s, leads) = hold.leads w p (length (body_of g p)) (stands_of_looks c.reduces) in
    k.table_of.no_contest s p (record {
      below = core_below k.graph s (hold.cores w s leads);
      differ = c.differ;
      accepts = hold.looks w s g.start_production (length (body_of g g.start_production)) (end_token g) leads c.accepts;
      reduces = hold.looks w s p (length (body_of g p)) (end_token g) leads c.reduces;
    })

some_of : (o : Option ℕ) → IsSome o → (u : ℕ) × (o ≡ Some u)
some_of None i = absurd cc
some_of (Some u) i = (u, refl)

module _ (g : Grammar) (h : Graph) (shape : IsGrammar g) (graph : IsGraphOf g h) where
  -- a candidate after a list contends where that leads
  contends : {w : List Symbol} {s t : ℕ} {x : Candidate} → Leads h w s → IsCandidate g w t x → IsContender g h s t x
  contends {w} {s} {t} leads (candidate.IsCandidate.shift {p = p} {d = d} stands b) =
      let is = (graph.gotos.edges s (Token t)).1 (p, d, (graph.hold.closed w s p d leads).1 stands, b) in
      table.IsContender.shift (some_of (edge h s (Token t)) is).1
  contends {w} {s} {t} leads (candidate.IsCandidate.reduce {p = p} differ l) =
      table.IsContender.reduce differ (graph.hold.looks w s p (length (body_of g p)) t leads l)
  contends {w} {s} {t} leads (candidate.IsCandidate.accept l) =
      table.IsContender.accept (graph.hold.looks w s g.start_production (length (body_of g g.start_production)) t leads l)

  -- two trees of a text don't part
  none_parts :
      AreDecided g h → (text : List ℕ) (t u : Tree) (before : List Move) (m : Move) (one : List Move) (n : Move) (other : List Move) → m ≢ n
      → IsTreeBy g (before ++ m ∷ one) text t → IsTreeBy g (before ++ n ∷ other) text u → ⊥
  none_parts all text t u before m one n other differ a b =
      let half = halfway m one t a in
      let x = next_token g half.left in
      let first = next_is_candidate shape half.left t m one a.of_start (a.leaves_are ∙ sym half.split) a.moves_are half.reads in
      let second = next_is_candidate shape half.left u n other b.of_start (b.leaves_are ∙ sym half.split) b.moves_are half.reads in
      let (p, d, stands) = stands_there first in
      let (s, leads) = graph.hold.leads half.roots p d stands in
      let core = graph.hold.cores half.roots s leads in
      let taken : take (length half.used) text ≡ half.used = ap (take (length half.used)) (sym half.split) ∙ take_at half.used half.left (length half.used) refl in
      let dropped : drop (length half.used) text ≡ half.left = ap (drop (length half.used)) (sym half.split) ∙ drop_at half.used half.left (length half.used) refl in
      all s x m n (core_below h s core) differ (contends leads first) (contends leads second) text before (m ∷ one) (n ∷ other) t u
      (record {
        used = length half.used;
        roots = half.roots;
        trees = half.trees;
        reads = rw taken half.reads;
        core = core;
        next = ap (next_token g) dropped;
        first = (one, refl);
        second = (other, refl);
      })
      a b

  module _ (alone : AcceptsAlone g) where
    -- at the end, with the start rule alone, nothing but accepting is a candidate
    ends : (r : ℕ) (m : Move) → body_of g g.start_production ≡ Rule r ∷ [] → IsCandidate g (Rule r ∷ []) (end_token g) (candidate_of m) → ⊥
    ends r Shift start (candidate.IsCandidate.shift {p = p} {d = d} s before) = omega (arith, symbol_at_dot shape p d (Token (end_token g)) before)
    ends r (Reduce q) start (candidate.IsCandidate.reduce differ l) =
        let accepts : Looks g (Rule r ∷ []) g.start_production (length (body_of g g.start_production)) (end_token g) =
        rw start (item.Looks.advance item.Looks.begin start) in
        alone q (record { start_rule = r; body = start; differ = differ; accepts = accepts; reduces = l })

    -- so no tree of a text goes on behind all the moves of another
    none_longer :
        (text : List ℕ) (t u : Tree) (ms : List Move) (m : Move) (after : List Move) → IsTreeBy g ms text t → IsTreeBy g (ms ++ m ∷ after) text u → ⊥
    none_longer text t u ms m after a b =
        let whole : Reads g ms text (Rule a.of_start.rule ∷ []) (And t Bare) = record {
          roots = and a.of_start.is_tree bare;
          used = append-nil (leaves t) ∙ a.leaves_are;
          made = append-nil (moves_of t) ∙ a.moves_are;
        } in
        ends a.of_start.rule m a.of_start.start
        (next_is_candidate shape [] u m after b.of_start (b.leaves_are ∙ sym (append-nil text)) b.moves_are whole)

    -- so by their moves two trees are the same
    same_moves :
        AreDecided g h → (text : List ℕ) (t u : Tree) (ms ns : List Move) → Comparison ms ns → IsTreeBy g ms text t → IsTreeBy g ns text u → ms ≡ ns
    same_moves all text t u ms ns moves.Comparison.same a b = refl
    same_moves all text t u ms ns (moves.Comparison.one_longer ns' m after) a b = absurd (none_longer text u t ns' m after b a)
    same_moves all text t u ms ns (moves.Comparison.other_longer ms' m after) a b = absurd (none_longer text t u ms' m after a b)
    same_moves all text t u ms ns (moves.Comparison.parted before m one n other differ) a b =
        absurd (none_parts all text t u before m one n other differ a b)

    pub unambiguous : AreDecided g h → IsUnambiguous g
    unambiguous all text s u =
        let same = same_moves all text s.tree u.tree (moves_of s.tree) (moves_of u.tree) (compared (moves_of s.tree) (moves_of u.tree)) (tree_by s) (tree_by u) in
        let roots : Rule s.rule ∷ [] ≡ Rule u.rule ∷ [] = sym s.start ∙ u.start in
        let root : Rule s.rule ≡ Rule u.rule = cc in
        tree_told s.is_tree u.is_tree root same
