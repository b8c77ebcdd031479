-- a machine that goes along with all moves to a tree accepts
use Rattle.std.proofs.Common.{◌≡◌, ◌≢◌, ℕ, zero, suc, ◌+◌, ◌<◌, List, [], ◌∷◌, ◌++◌, length, take, drop, refl, sym, ap, ◌∙◌, subst, arith, Option, None, Some, Bool, true, false, cond}
use Rattle.std.specs.Prelude.{slice_get}
use Rattle.std.proofs.lemmas.Bool.{lt-leb}
use Rattle.std.proofs.lemmas.List.{take_more, take_all}
use Rattle.std.proofs.lemmas.Option.{slice_get_within, get_or_from_slice_get}
use Rattle.lrspec.specs.grammars.Grammar.{Rule, Token, Grammar, IsGrammar, body_of, end_token}
use Rattle.lrspec.specs.grammars.CanonicalItems as item
use Rattle.lrspec.specs.grammars.CanonicalItems.{Looks}
use Rattle.lrspec.specs.grammars.Candidates as candidate
use Rattle.lrspec.specs.grammars.Candidates.{Candidate}
use Rattle.lrspec.specs.grammars.ItemSets.{LooksIn}
use Rattle.lrspec.specs.grammars.Trees.{Tree, Forest, Leaf, Node, Bare, And, forest_leaves, joined}
use Rattle.lrspec.specs.merging.Graph.{Graph, Leads, closed_of, IsGraphOf}
use Rattle.lrspec.specs.tables.Table as table
use Rattle.lrspec.specs.tables.Table.{Table, Action, IsContender, IsCrowded, IsTableOf, IsTableFor, action_of}
use Rattle.lrspec.specs.tables.Machine.{Config, Goes, Sticks, Accepted, Rejected, top, next_token, reduced, act, step, after_step, start_config, run}
use Rattle.lrspec.specs.tables.Recognition.{AreNamed}
use Rattle.lrspec.proofs.grammars.BodyFacts.{symbol_at_dot}
use Rattle.lrspec.proofs.tables.MachineInvariant.{Holds, shift_holds, reduce_holds}
use Rattle.lrspec.proofs.tables.MachineMoves as move
use Rattle.lrspec.proofs.tables.MachineRuns.{start_holds}
use Rattle.lrspec.proofs.tables.MachineStacks.{stack_leads, stack_below, start_body}
use Rattle.lrspec.proofs.tables.UncrowdedCells.{only_accept}
use Rattle.lrtable.specs.Reached.{IsReachedIn}
use Rattle.lrtable.proofs.ReachedRuns.{reached_next, run_ended}
use Rattle.lrconflicts.specs.Moves.{Move, Shift, Reduce, forest_moves, IsTreeBy}
use Rattle.lrambiguity.specs.Replays.{Reads}
use Rattle.lrambiguity.proofs.DeadEnds.{tree_read}
use Rattle.lrambiguity.proofs.ReadingSteps.{moves_pushed, node_moves}
use Rattle.lrlosses.specs.Losses as loss
use Rattle.lrlosses.specs.Losses.{Takes, GoesAlong, cell_seen, machine_after}
use Rattle.lrlosses.proofs.Rejections.{stands_where_reached, never_accepted}

-- one move more
one_more : (ms : List Move) (n : ℕ) (m : Move) → slice_get ms n ≡ Some m → take (n + 1) ms ≡ take n ms ++ m ∷ []
one_more ms n m is =
    take_more ms n m (slice_get_within ms n m is) ∙ ap (λ x. take n ms ++ x ∷ []) (get_or_from_slice_get ms n m m is)

-- a reduction goes on where the stack is deep enough and the goto is there
reduction_on :
    (x : Bool) (o : Option ℕ) (p u : ℕ) (ss : List ℕ) (c : Config) → x ≡ false → o ≡ Some u
    → cond x Sticks (reduced o p ss c) ≡ Goes (record { stack = u ∷ ss; left = c.left; reductions = c.reductions ++ p ∷ [] })
reduction_on true o p u ss c e f = cc
reduction_on false None p u ss c e f = cc
reduction_on false (Some v) p u ss c e f = let k : v ≡ u = cc in rw k refl

module _ (g : Grammar) (h : Graph) (b : Table) (m : IsGrammar g) (k : IsGraphOf g h) (o : IsTableOf g h b) where
  -- at the end of the text nothing but accepting contends with it
  accept_contends :
      (s : ℕ) → s < length h → LooksIn (closed_of h s) g.start_production (length (body_of g g.start_production)) (end_token g)
      → {x : Candidate} → IsContender g h s (end_token g) x → x ≡ candidate.Candidate.Accept
  accept_contends s below within (table.IsContender.shift e) =
      let before = (k.gotos.edges s (Token (end_token g))).0 (rw e refl) in
      absurd (omega (arith, symbol_at_dot m before.0 before.1 (Token (end_token g)) before.3))
  accept_contends s below within (table.IsContender.reduce {p = p} differ looks) =
      absurd (o.no_contest s p (record { below = below; differ = differ; accepts = within; reduces = looks }))
  accept_contends s below within (table.IsContender.accept looks) = refl

  -- so the cell is not crowded
  pub accepts_alone :
      (s : ℕ) → s < length h → LooksIn (closed_of h s) g.start_production (length (body_of g g.start_production)) (end_token g)
      → IsCrowded g h s (end_token g) → ⊥
  accepts_alone s below within c = c.differ (accept_contends s below within c.is_one ∙ sym (accept_contends s below within c.is_other))

  module _ (text : List ℕ) (named : AreNamed g text) where
    -- the machine has put together trees, by these moves
    pub record HasRead (ms : List Move) (c : Config) : Type 0 where
      pub steps : ℕ
      pub trees : Forest
      pub holds : Holds g h text steps c.stack c.left c.reductions trees
      pub made : forest_moves trees ≡ ms

    -- where the cell takes a move, the machine makes it
    pub read_on :
        (ms : List Move) (c : Config) (x : Action) (n : Move) → HasRead ms c → cell_seen g b c ≡ x → Takes x n
        → (d : Config) × (step g b c ≡ Goes d) × HasRead (ms ++ n ∷ []) d
    read_on ms c x n a e (loss.Takes.shift {s = s}) = (
      record { stack = s ∷ c.stack; left = drop 1 c.left; reductions = c.reductions },
      ap (λ i. act g b i c) e,
      record {
        steps = a.steps + 1;
        trees = joined a.trees (And (Leaf (next_token g c.left)) Bare);
        holds = shift_holds g h b m k o text named s a.holds e;
        made = moves_pushed a.trees (Leaf (next_token g c.left)) ∙ ap (λ l. l ++ Shift ∷ []) a.made;
      },
    )
    read_on ms c x n a e (loss.Takes.reduce {p = p}) =
        let r = reduce_holds g h b m k o text named p a.holds e in
        let size : ℕ = length (body_of g p) in (
          record { stack = r.target ∷ drop size c.stack; left = c.left; reductions = c.reductions ++ p ∷ [] },
          ap (λ i. act g b i c) e ∙ reduction_on _ _ p r.target (drop size c.stack) c (lt-leb (length c.stack) size r.deep) r.goto,
          record {
            steps = a.steps + 1;
            trees = joined r.cut.0 (And (Node p r.cut.1) Bare);
            holds = r.holds r.cut.0 r.cut.1 r.cut.2 r.cut.3;
            made = node_moves p r.cut.0 r.cut.1 ∙ ap (λ l. l ++ Reduce p ∷ []) (ap forest_moves (sym r.cut.2) ∙ a.made);
          },
        )

    -- where it goes along with the first moves, these put its trees together
    pub along_reads :
        (ms : List Move) (n : ℕ) → GoesAlong g b text ms n → (c : Config) × IsReachedIn g b text n c × HasRead (take n ms) c
    along_reads ms zero along = (
      start_config b text,
      move.Moves.none,
      record { steps = 0; trees = Bare; holds = start_holds g h b m k o text named; made = refl },
    )
    along_reads ms (suc n) along =
        let (c, r, a) = along_reads ms n (λ i l. along i (omega arith)) in
        let (x, is, taken) = along n (omega arith) in
        let there : machine_after g b text n ≡ c = stands_where_reached r in
        let (d, goes, read) = read_on (take n ms) c (cell_seen g b c) x a refl (subst (λ e. Takes (cell_seen g b e) x) there taken) in
        let next : suc n ≡ n + 1 = omega arith in
        rw next (d, reached_next g b text n c d r goes, subst (λ l. HasRead l d) (sym (one_more ms n x is)) read)

    -- behind all moves to a tree of the text it accepts
    pub whole_accepts :
        (ms : List Move) (t : Tree) (c : Config) → IsTreeBy g ms text t → HasRead ms c → cell_seen g b c ≡ table.Action.Accept
    whole_accepts ms t c tree a =
        let reads : Reads g ms (forest_leaves a.trees) a.holds.symbols a.trees = record { roots = a.holds.roots; used = refl; made = a.made } in
        let (roots, empty) = tree_read c.left t reads (sym a.holds.used) tree in
        let start : body_of g g.start_production ≡ Rule m.start.0 ∷ [] = start_body m in
        let leads : Leads h (Rule m.start.0 ∷ []) (top c.stack) = subst (λ w. Leads h w (top c.stack)) (roots ∙ start) (stack_leads a.holds.is_stack) in
        let below = stack_below m k a.holds.is_stack in
        let looks : Looks g (Rule m.start.0 ∷ []) g.start_production (length (body_of g g.start_production)) (end_token g) =
        rw start (item.Looks.advance item.Looks.begin start) in
        let within = k.hold.looks (Rule m.start.0 ∷ []) (top c.stack) g.start_production (length (body_of g g.start_production)) (end_token g) leads looks in
        ap (λ l. action_of b (top c.stack) (next_token g l)) empty
        ∙ (o.cells (top c.stack) (end_token g) below (omega arith)
        ∙ only_accept g h (top c.stack) (end_token g) (accepts_alone (top c.stack) below within) within)

-- so it doesn't reject what it goes along with
pub along_to_the_end :
    (g : Grammar) (b : Table) (text : List ℕ) (ms : List Move) (t : Tree) → IsGrammar g → IsTableFor g b → AreNamed g text → IsTreeBy g ms text t
    → GoesAlong g b text ms (length ms) → (n : ℕ) → (run g b n text).verdict ≢ Rejected
along_to_the_end g b text ms t m k named tree along n =
    let size : ℕ = length ms in
    let (c, r, a) = along_reads g k.graph b m k.graph_of k.table_of text named ms size along in
    let all = take_all size ms (omega arith) in
    let cell = whole_accepts g k.graph b m k.graph_of k.table_of text named ms t c tree (subst (λ l. HasRead g k.graph b m k.graph_of k.table_of text named l c) all a) in
    let ends = run_ended g b text size (size + 1) c Accepted r (omega arith) (λ go. ap (λ x. after_step go (act g b x c) c) cell) in
    λ rejected. never_accepted g b text (n, rejected) (size + 1) (ap (λ a. a.verdict) ends)
