-- where losers of cells are kept, and the grammar is acyclic, the table is exact
use Rattle.std.proofs.Common.{◌≡◌, ℕ, zero, suc, ◌+◌, ◌*◌, ◌<◌, ◌≤◌, List, [], ◌∷◌, ◌++◌, ◌⊎◌, inl, inr, length, length-append, drop, refl, sym, ap, ◌∙◌, append_assoc, append-nil, subst, arith}
use Rattle.std.specs.Prelude.{slice_get}
use Rattle.std.proofs.lemmas.List.{drop_at}
use Rattle.lrspec.specs.grammars.Grammar.{Production, Grammar, IsGrammar, body_or_none}
use Rattle.lrspec.specs.grammars.Trees.{Tree, Forest, Leaf, Node, Bare, And, leaves, forest_leaves, order, forest_order, nodes, IsSentence}
use Rattle.lrspec.specs.merging.Graph.{Graph, IsGraphOf}
use Rattle.lrspec.specs.tables.Table as table
use Rattle.lrspec.specs.tables.Table.{Table, IsCrowded, IsTableOf, action_of}
use Rattle.lrspec.specs.tables.Machine.{Config, Accepted, top, next_token, act, after_step, run, start_config}
use Rattle.lrspec.specs.tables.Recognition.{AreNamed}
use Rattle.lrspec.proofs.tables.MachineMoves as move
use Rattle.lrspec.proofs.tables.MachineStacks.{stack_leads, stack_below}
use Rattle.lrspec.proofs.tables.MachineTheorems.{sound}
use Rattle.lrtable.specs.Reached.{IsReachedIn}
use Rattle.lrtable.proofs.ReachedRuns.{reached_next, run_ended}
use Rattle.lrconflicts.specs.Moves.{Move, Reduce, moves_of, forest_moves, IsTreeBy}
use Rattle.lrlosses.specs.Losses.{Takes, Place, ComesTo, StopsAt, cell_seen, machine_after}
use Rattle.lrlosses.proofs.Rejections.{stands_where_reached, unfinished_before}
use Rattle.lrlosses.proofs.Sentences.{sentence_named}
use Rattle.lrkept.specs.Acyclicity.{IsAcyclic, nodes_within}
use Rattle.lrkept.specs.Choices.{TakesAll}
use Rattle.lrkept.specs.Kept.{IsLoser, IsKept, AreKept, AreKeptButAtErrors}
use Rattle.lrlosses.specs.Exactness.{IsExact, IsExactButAtErrors, StopsAtCrowdedError}
use Rattle.lrkept.proofs.NodeBounds.{sentence_nodes}
use Rattle.lrambiguity.proofs.Finishing.{tree_of_way, way_of_tree}
use Rattle.lrkept.proofs.Losers.{all_taken, error_crowded, error_or_not}
use Rattle.lrkept.proofs.Goings.{HasRead, nothing_read, reads, read_on, next_contends, whole_accepts, takes_or_not}

mutual
  -- a tree has a move for each leaf and each node
  count_moves : (t : Tree) → length (moves_of t) ≡ length (leaves t) + nodes t
  count_moves (Leaf t) = omega arith
  count_moves (Node p ts) =
      omega (arith, count_forest ts, length-append (forest_moves ts) (Reduce p ∷ []), length-append (forest_order ts) (p ∷ []))

  count_forest : (ts : Forest) → length (forest_moves ts) ≡ length (forest_leaves ts) + length (forest_order ts)
  count_forest Bare = omega arith
  count_forest (And t ts) =
      omega (arith, count_moves t, count_forest ts, length-append (moves_of t) (forest_moves ts), length-append (leaves t) (forest_leaves ts), length-append (order t) (forest_order ts))

-- the lengths of all bodies together
abbrev lengths : List Production → ℕ
lengths [] = 0
lengths (q ∷ qs) = length q.body + lengths qs

-- no body is longer
body_within : (ps : List Production) (p : ℕ) → length (body_or_none (slice_get ps p)) ≤ lengths ps
body_within [] p = omega arith
body_within (q ∷ ps) zero = omega arith
body_within (q ∷ ps) (suc p) = let behind : length (body_or_none (slice_get ps p)) ≤ lengths ps = body_within ps p in omega arith

module _ (g : Grammar) (h : Graph) (b : Table) (m : IsGrammar g) (k : IsGraphOf g h) (o : IsTableOf g h b) where
  module _ (Excused : ℕ → ℕ → Type 0) (kept : (s t : ℕ) (l : Move) → s < length h → IsLoser g h b s t l → IsKept g h b s t l ⊎ ((action_of b s t ≡ table.Action.Error) × Excused s t)) (text : List ℕ) (named : AreNamed g text) (most : ℕ) (few : (ms : List Move) (t : Tree) → IsTreeBy g ms text t → length ms ≤ most) where
    -- how the run on the text ends: it is accepted in few steps, or stops at an error that is excused
    abbrev Ends : Type 0
    Ends =
        ((n : ℕ) → most + 1 ≤ n → (run g b n text).verdict ≡ Accepted)
        ⊎ ((x : Place) × StopsAt g b text x × Excused x.state x.token)

    -- what the machine has read by these moves
    abbrev Read : List Move → Config → Type 0
    Read ms c = HasRead g h b m k o text named ms c

    -- behind all moves to a tree it accepts
    accepts :
        (ms : List Move) (c : Config) (t : Tree) → IsReachedIn g b text (length ms) c → Read ms c → IsTreeBy g ms text t → (n : ℕ) → most + 1 ≤ n
        → (run g b n text).verdict ≡ Accepted
    accepts ms c t r a tree n l =
        let cell = whole_accepts g h b m k o text named ms t c tree a in
        let short = few ms t tree in
        ap (λ x. x.verdict) (run_ended g b text (length ms) n c Accepted r (omega arith) (λ go. ap (λ x. after_step go (act g b x c) c) cell))

    -- at an error that is excused it stops
    stops :
        (ms : List Move) (c : Config) → IsReachedIn g b text (length ms) c → Read ms c → cell_seen g b c ≡ table.Action.Error
        → Excused (top c.stack) (next_token g c.left) → Ends
    stops ms c r a e x =
        let used : ℕ = length (forest_leaves a.trees) in
        let there : machine_after g b text (length ms) ≡ c = stands_where_reached r in
        let dropped : drop used text ≡ c.left = ap (drop used) (sym a.holds.used) ∙ drop_at (forest_leaves a.trees) c.left used refl in
        let place : Place = record { steps = length ms; used = used; state = top c.stack; token = next_token g c.left } in
        let comes : ComesTo g b text place = record {
          goes = unfinished_before r (length ms) (omega arith);
          state = ap (λ d. top d.stack) there;
          within = omega (arith, ap length a.holds.used, length-append (forest_leaves a.trees) c.left);
          left = ap (λ d. d.left) there ∙ sym dropped;
          token = ap (next_token g) dropped;
        } in
        inr (place, record { comes = comes; error = e }, x)

    -- a way on from where the machine is to a tree of the text, with the move that the cell takes first
    record WayOn (before : List Move) (c : Config) : Type 0 where
      move : Move
      others : List Move
      taken : Takes (cell_seen g b c) move
      tree : Tree
      whole : IsTreeBy g ((before ++ move ∷ []) ++ others) text tree

    -- where there is some way on there is such a one, or the cell is an error that is excused
    way_on :
        (before : List Move) (n : Move) (after : List Move) (c : Config) (t : Tree) → Read before c → IsTreeBy g (before ++ n ∷ after) text t
        → WayOn before c ⊎ ((cell_seen g b c ≡ table.Action.Error) × Excused (top c.stack) (next_token g c.left))
    way_on before n after c t a tree = elim (takes_or_not (cell_seen g b c) n) [
      | inl taken ↦
          inl (record { move = n; others = after; taken = taken; tree = t; whole = rw (append_assoc before (n ∷ []) after) tree })
      | inr refused ↦
          let loser : IsLoser g h b (top c.stack) (next_token g c.left) n = record {
            contends = next_contends g h b m k o text named before c n after t a tree;
            refused = refused;
          } in
          elim (kept (top c.stack) (next_token g c.left) n (stack_below m k a.holds.is_stack) loser) [
            | inl keeps ↦
                let there = reads g h b m k o text named a in
                let split : text ≡ forest_leaves a.trees ++ c.left = sym a.holds.used in
                let way = way_of_tree m (n ∷ after) c.left t there (subst (λ l. IsTreeBy g (before ++ n ∷ after) l t) split tree) in
                let goes = keeps a.holds.symbols c.left after (stack_leads a.holds.is_stack) refl way in
                let (u, made) = tree_of_way m goes.finishes there in
                let whole : IsTreeBy g (before ++ goes.move ∷ goes.others) text u =
                subst (λ l. IsTreeBy g (before ++ goes.move ∷ goes.others) l u) (sym split) made in
                inl (record {
                  move = goes.move;
                  others = goes.others;
                  taken = goes.taken;
                  tree = u;
                  whole = rw (append_assoc before (goes.move ∷ []) goes.others) whole;
                })
            | inr e ↦ inr e
          ]
    ]

    -- so the machine goes along with one tree after another, each time a move further
    comes :
        (fuel : ℕ) (before after : List Move) (c : Config) (t : Tree) → most ≤ length before + fuel → IsReachedIn g b text (length before) c
        → Read before c → IsTreeBy g (before ++ after) text t → Ends
    comes fuel before [] c t l r a tree = inl (accepts before c t r a (rw (append-nil before) at tree))
    comes zero before (n ∷ after) c t l r a tree =
        absurd (omega (arith, few (before ++ n ∷ after) t tree, length-append before (n ∷ after)))
    comes (suc fuel) before (n ∷ after) c t l r a tree = elim (way_on before n after c t a tree) [
      | inl w ↦
          let (d, goes, read) = read_on g h b m k o text named before c (cell_seen g b c) w.move a refl w.taken in
          let count : length (before ++ w.move ∷ []) ≡ length before + 1 = length-append before (w.move ∷ []) in
          comes fuel (before ++ w.move ∷ []) w.others d w.tree (omega arith) (rw count (reached_next g b text (length before) c d r goes)) read w.whole
      | inr e ↦ stops before c r a e.0 e.1
    ]

    -- from the beginning on
    pub run_ends : IsSentence g text → Ends
    run_ends s =
        comes most [] (moves_of s.tree) (start_config b text) s.tree (omega arith) move.Moves.none (nothing_read g h b m k o text named)
        (record { of_start = record { rule = s.rule; start = s.start; is_tree = s.is_tree }; leaves_are = s.leaves_are; moves_are = refl })

  module _ (acyclic : IsAcyclic g) where
    -- how many steps suffice
    abbrev enough : ℕ → ℕ
    enough count = count + nodes_within (lengths g.productions) ((count + 1) * acyclic.0) + 1

    few_moves :
        (text : List ℕ) (ms : List Move) (t : Tree) → IsTreeBy g ms text t
        → length ms ≤ length text + nodes_within (lengths g.productions) ((length text + 1) * acyclic.0)
    few_moves text ms t a =
        let sentence : IsSentence g text = record { rule = a.of_start.rule; tree = t; start = a.of_start.start; is_tree = a.of_start.is_tree; leaves_are = a.leaves_are } in
        let within = sentence_nodes g (lengths g.productions) acyclic.0 acyclic.1 (λ p. body_within g.productions p) acyclic.2 sentence in
        omega (arith, within, count_moves t, ap length a.moves_are, ap length a.leaves_are)

    -- each sentence is accepted where all losers are kept
    pub exact : AreKept g h b → IsExact g b
    exact kept = record {
      sentences = λ text named. (
        λ (n, e). (sound m (record { graph = h; graph_of = k; table_of = o }) n text named e).0,
        λ s. (enough (length text), accepted text (enough (length text)) s (omega arith)),
      );
      steps = enough;
      within = accepted;
    }
      where
        accepted : (text : List ℕ) (n : ℕ) → IsSentence g text → enough (length text) ≤ n → (run g b n text).verdict ≡ Accepted
        accepted text n s l =
            elim (run_ends (λ q t. ⊥) (λ q t l below loser. inl (kept q t l below loser)) text (sentence_named m s) _ (few_moves text) s) [
              | inl ends ↦ ends n l
              | inr stop ↦ absurd stop.2
            ]

    -- and where they are kept but at errors, it is accepted or stops at a crowded one
    pub exact_but_at_errors : AreKeptButAtErrors g h b → IsExactButAtErrors g h b
    exact_but_at_errors kept = record { sound = sound m (record { graph = h; graph_of = k; table_of = o }); steps = enough; within = ends }
      where
        kept_or_error :
            (s t : ℕ) (l : Move) → s < length h → IsLoser g h b s t l → IsKept g h b s t l ⊎ ((action_of b s t ≡ table.Action.Error) × IsCrowded g h s t)
        kept_or_error s t l below loser = elim (error_or_not (action_of b s t)) [
          | inl e ↦ inr (e, error_crowded g h b m k o s t l below e loser.contends)
          | inr acts ↦ inl (kept s t l below loser acts)
        ]

        ends : (text : List ℕ) (n : ℕ) → IsSentence g text → enough (length text) ≤ n → ((run g b n text).verdict ≡ Accepted) ⊎ StopsAtCrowdedError g h b text
        ends text n s l = elim (run_ends (IsCrowded g h) kept_or_error text (sentence_named m s) _ (few_moves text) s) [
          | inl accepts ↦ inl (accepts n l)
          | inr stop ↦ inr stop
        ]

    -- where each cell takes all that contends for it, no move is a loser
    pub exact_taking : TakesAll g h b → IsExact g b
    exact_taking all = exact (λ s t l below loser. absurd (loser.refused (all_taken g h b m k o all s t l below loser.contends)))
