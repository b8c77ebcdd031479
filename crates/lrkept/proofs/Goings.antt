-- a machine that goes along with the moves to a tree
use Rattle.std.proofs.Common.{◌≡◌, ℕ, ◌+◌, ◌<◌, List, [], ◌∷◌, ◌++◌, ◌⊎◌, inl, inr, length, drop, refl, sym, ap, ◌∙◌, subst, arith, Option, None, Some, Bool, true, false, cond}
use Rattle.std.proofs.lemmas.Bool.{lt-leb, cases_eq}
use Rattle.lrspec.specs.grammars.Grammar.{Rule, Token, Grammar, IsGrammar, body_of, end_token}
use Rattle.lrspec.specs.grammars.CanonicalItems as item
use Rattle.lrspec.specs.grammars.CanonicalItems.{Looks}
use Rattle.lrspec.specs.grammars.Candidates as candidate
use Rattle.lrspec.specs.grammars.Candidates.{Candidate, IsCandidate}
use Rattle.lrspec.specs.grammars.ItemSets.{LooksIn}
use Rattle.lrspec.specs.grammars.Trees.{Tree, Forest, Leaf, Node, Bare, And, forest_leaves, joined}
use Rattle.lrspec.specs.merging.Graph.{Graph, Leads, closed_of, IsGraphOf}
use Rattle.lrspec.specs.tables.Table as table
use Rattle.lrspec.specs.tables.Table.{Table, Action, IsContender, IsCrowded, IsTableOf, action_of}
use Rattle.lrspec.specs.tables.Machine.{Config, Goes, Sticks, top, next_token, reduced, act, step, start_config}
use Rattle.lrspec.specs.tables.Recognition.{AreNamed}
use Rattle.lrspec.proofs.grammars.BodyFacts.{symbol_at_dot}
use Rattle.lrspec.proofs.tables.MachineInvariant.{Holds, shift_holds, reduce_holds}
use Rattle.lrspec.proofs.tables.MachineRuns.{start_holds}
use Rattle.lrspec.proofs.tables.MachineStacks.{stack_leads, stack_below, start_body}
use Rattle.lrspec.proofs.tables.UncrowdedCells.{only_accept}
use Rattle.lrconflicts.specs.Moves.{Move, Shift, Reduce, candidate_of, forest_moves, IsTreeBy}
use Rattle.lrambiguity.specs.Replays.{Reads}
use Rattle.lrambiguity.proofs.DeadEnds.{tree_read}
use Rattle.lrambiguity.proofs.NextMoves.{next_is_candidate}
use Rattle.lrambiguity.proofs.ReadingSteps.{moves_pushed, node_moves}
use Rattle.lrlosses.specs.Losses as loss
use Rattle.lrlosses.specs.Losses.{Takes, cell_seen}
use Rattle.lrkept.proofs.OpenItemsStand.{contends}

-- a cell takes a move or not
pub takes_or_not : (a : Action) (m : Move) → Takes a m ⊎ ¬ (Takes a m)
takes_or_not (table.Action.Shift s) Shift = inl loss.Takes.shift
takes_or_not (table.Action.Shift s) (Reduce p) = inr (λ k. elim k [ ])
takes_or_not (table.Action.Reduce q) Shift = inr (λ k. elim k [ ])
takes_or_not (table.Action.Reduce q) (Reduce p) = elim (cases_eq q p) [
  | inl e ↦ inl (rw e loss.Takes.reduce)
  | inr differ ↦ inr (λ k. differ (same_production k))
]
  where
    same_production : {a b : ℕ} → Takes (table.Action.Reduce a) (Reduce b) → a ≡ b
    same_production loss.Takes.reduce = refl
takes_or_not table.Action.Accept m = inr (λ k. elim k [ ])
takes_or_not table.Action.Error m = inr (λ k. elim k [ ])

-- a reduction goes on where the stack is deep enough and the goto is there
reduction_on :
    (x : Bool) (o : Option ℕ) (p u : ℕ) (ss : List ℕ) (c : Config) → x ≡ false → o ≡ Some u
    → cond x Sticks (reduced o p ss c) ≡ Goes (record { stack = u ∷ ss; left = c.left; reductions = c.reductions ++ p ∷ [] })
reduction_on true o p u ss c e f = cc
reduction_on false None p u ss c e f = cc
reduction_on false (Some v) p u ss c e f = let k : v ≡ u = cc in rw k refl

module _ (g : Grammar) (h : Graph) (b : Table) (m : IsGrammar g) (k : IsGraphOf g h) (o : IsTableOf g h b) where
  -- at the end of the text nothing but accepting contends with it
  accept_contends :
      (s : ℕ) → s < length h → LooksIn (closed_of h s) g.start_production (length (body_of g g.start_production)) (end_token g)
      → {x : Candidate} → IsContender g h s (end_token g) x → x ≡ candidate.Candidate.Accept
  accept_contends s below within (table.IsContender.shift e) =
      let before = (k.gotos.edges s (Token (end_token g))).0 (rw e refl) in
      absurd (omega (arith, symbol_at_dot m before.0 before.1 (Token (end_token g)) before.3))
  accept_contends s below within (table.IsContender.reduce {p = p} differ looks) =
      absurd (o.no_contest s p (record { below = below; differ = differ; accepts = within; reduces = looks }))
  accept_contends s below within (table.IsContender.accept looks) = refl

  -- so the cell is not crowded
  pub accepts_alone :
      (s : ℕ) → s < length h → LooksIn (closed_of h s) g.start_production (length (body_of g g.start_production)) (end_token g)
      → IsCrowded g h s (end_token g) → ⊥
  accepts_alone s below within c = c.differ (accept_contends s below within c.is_one ∙ sym (accept_contends s below within c.is_other))

  module _ (text : List ℕ) (named : AreNamed g text) where
    -- the machine has put together trees, by these moves
    pub record HasRead (ms : List Move) (c : Config) : Type 0 where
      pub steps : ℕ
      pub trees : Forest
      pub holds : Holds g h text steps c.stack c.left c.reductions trees
      pub made : forest_moves trees ≡ ms

    -- at first none
    pub nothing_read : HasRead [] (start_config b text)
    nothing_read = record { steps = 0; trees = Bare; holds = start_holds g h b m k o text named; made = refl }

    -- they read the beginning of the text
    pub reads : {ms : List Move} {c : Config} (a : HasRead ms c) → Reads g ms (forest_leaves a.trees) a.holds.symbols a.trees
    reads a = record { roots = a.holds.roots; used = refl; made = a.made }

    -- where the cell takes a move, the machine makes it
    pub read_on :
        (ms : List Move) (c : Config) (x : Action) (n : Move) → HasRead ms c → cell_seen g b c ≡ x → Takes x n
        → (d : Config) × (step g b c ≡ Goes d) × HasRead (ms ++ n ∷ []) d
    read_on ms c x n a e (loss.Takes.shift {s = s}) = (
      record { stack = s ∷ c.stack; left = drop 1 c.left; reductions = c.reductions },
      ap (λ i. act g b i c) e,
      record {
        steps = a.steps + 1;
        trees = joined a.trees (And (Leaf (next_token g c.left)) Bare);
        holds = shift_holds g h b m k o text named s a.holds e;
        made = moves_pushed a.trees (Leaf (next_token g c.left)) ∙ ap (λ l. l ++ Shift ∷ []) a.made;
      },
    )
    read_on ms c x n a e (loss.Takes.reduce {p = p}) =
        let r = reduce_holds g h b m k o text named p a.holds e in
        let size : ℕ = length (body_of g p) in (
          record { stack = r.target ∷ drop size c.stack; left = c.left; reductions = c.reductions ++ p ∷ [] },
          ap (λ i. act g b i c) e ∙ reduction_on _ _ p r.target (drop size c.stack) c (lt-leb (length c.stack) size r.deep) r.goto,
          record {
            steps = a.steps + 1;
            trees = joined r.cut.0 (And (Node p r.cut.1) Bare);
            holds = r.holds r.cut.0 r.cut.1 r.cut.2 r.cut.3;
            made = node_moves p r.cut.0 r.cut.1 ∙ ap (λ l. l ++ Reduce p ∷ []) (ap forest_moves (sym r.cut.2) ∙ a.made);
          },
        )

    -- the next move to a tree of the text contends
    pub next_contends :
        (ms : List Move) (c : Config) (n : Move) (others : List Move) (t : Tree) → HasRead ms c → IsTreeBy g (ms ++ n ∷ others) text t
        → IsContender g h (top c.stack) (next_token g c.left) (candidate_of n)
    next_contends ms c n others t a tree =
        contends m k (stack_leads a.holds.is_stack)
        (next_is_candidate m c.left t n others tree.of_start (tree.leaves_are ∙ sym a.holds.used) tree.moves_are (reads a))

    -- behind all moves to a tree of the text it accepts
    pub whole_accepts : (ms : List Move) (t : Tree) (c : Config) → IsTreeBy g ms text t → HasRead ms c → cell_seen g b c ≡ table.Action.Accept
    whole_accepts ms t c tree a =
        let (roots, empty) = tree_read c.left t (reads a) (sym a.holds.used) tree in
        let start : body_of g g.start_production ≡ Rule m.start.0 ∷ [] = start_body m in
        let leads : Leads h (Rule m.start.0 ∷ []) (top c.stack) = subst (λ w. Leads h w (top c.stack)) (roots ∙ start) (stack_leads a.holds.is_stack) in
        let below = stack_below m k a.holds.is_stack in
        let looks : Looks g (Rule m.start.0 ∷ []) g.start_production (length (body_of g g.start_production)) (end_token g) =
        rw start (item.Looks.advance item.Looks.begin start) in
        let within = k.hold.looks (Rule m.start.0 ∷ []) (top c.stack) g.start_production (length (body_of g g.start_production)) (end_token g) leads looks in
        ap (λ l. action_of b (top c.stack) (next_token g l)) empty
        ∙ (o.cells (top c.stack) (end_token g) below (omega arith)
        ∙ only_accept g h (top c.stack) (end_token g) (accepts_alone (top c.stack) below within) within)
