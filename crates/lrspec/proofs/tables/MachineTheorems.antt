-- the machine never sticks, is sound, and is complete where no cell is crowded
use Rattle.std.proofs.Common.{◌≡◌, ◌≢◌, ℕ, ◌+◌, ◌≤◌, List, [], ◌∷◌, ◌++◌, length, take, drop, sym, ap, ◌∙◌, subst, append-nil, length-append, arith}
use Rattle.std.proofs.lemmas.List.{take_at}
use Rattle.std.proofs.Math.Seq.{drop-append_seam}
use Rattle.lrspec.specs.grammars.Grammar.{Rule, Grammar, IsGrammar, body_of, end_token}
use Rattle.lrspec.specs.grammars.First as first
use Rattle.lrspec.specs.grammars.CanonicalItems as item
use Rattle.lrspec.specs.grammars.CanonicalItems.{Looks}
use Rattle.lrspec.specs.grammars.Trees.{Tree, Forest, leaves, forest_leaves, order, nodes, IsSentence}
use Rattle.lrspec.specs.merging.Graph.{Graph, IsGraphOf}
use Rattle.lrspec.specs.tables.Table.{Table, IsTableOf, IsTableFor, NoCellIsCrowded, IsUncrowded}
use Rattle.lrspec.specs.tables.Machine.{act, Verdict, Accepted, Rejected, Unfinished, Stuck, Answer, after, run, left_after}
use Rattle.lrspec.specs.tables.TreeMachine.{forest_of_run}
use Rattle.lrspec.specs.tables.Recognition.{AreNamed, IsNeverStuck, IsSound, IsComplete, IsUnambiguous, HasTrees, BeginsSentence, shifted, last_step, ShiftsBeginnings, ShiftsWhatIsTaken}
use Rattle.lrspec.proofs.tables.UncrowdedCells.{only_accept}
use Rattle.lrspec.proofs.tables.MachineStacks as stack
use Rattle.lrspec.proofs.tables.MachineStacks.{IsStack, stack_leads, stack_below}
use Rattle.lrspec.proofs.tables.MachineRuns.{IsOneTree, Ends, run_comes}
use Rattle.lrspec.proofs.tables.MachineMoves.{Moves, at, moves_then_accepts}
use Rattle.lrspec.proofs.tables.TreeRuns.{tree_runs}
use Rattle.lrspec.proofs.grammars.UniqueTrees.{tree_same}
use Rattle.lrspec.proofs.tables.ViableBeginnings.{holds_begins}

-- no run ends stuck
not_stuck : (g : Grammar) (text : List ℕ) (v : Verdict) (s m : ℕ) (rs : List ℕ) (ts : Forest) → Ends g text v s m rs ts → v ≢ Stuck
not_stuck g text Accepted s m rs ts k = λ e. cc
not_stuck g text Rejected s m rs ts k = λ e. cc
not_stuck g text Unfinished s m rs ts k = λ e. cc
not_stuck g text Stuck s m rs ts k = absurd k

-- the machine of a table never sticks
pub never_stuck : {g : Grammar} {b : Table} → IsGrammar g → IsTableFor g b → IsNeverStuck g b
never_stuck {g} {b} m k n text named =
    let c = run_comes g k.graph b m k.graph_of k.table_of text named n in
    not_stuck g text (run g b n text).verdict (0 + (run g b n text).steps) c.moves (run g b n text).reductions (forest_of_run g b n text) c.ends

-- a run that accepts has put one tree together
accepted_tree :
    (g : Grammar) (text : List ℕ) (v : Verdict) (s m : ℕ) (rs : List ℕ) (ts : Forest) → Ends g text v s m rs ts → v ≡ Accepted
    → IsOneTree g text rs ts
accepted_tree g text Accepted s m rs ts k e = k.1
accepted_tree g text Rejected s m rs ts k e = cc
accepted_tree g text Unfinished s m rs ts k e = cc
accepted_tree g text Stuck s m rs ts k e = cc

-- where it accepts, the forest that it has put together is one tree of the text
pub one_tree_of_run :
    {g : Grammar} {b : Table} → IsGrammar g → IsTableFor g b → (n : ℕ) (text : List ℕ) → AreNamed g text
    → (run g b n text).verdict ≡ Accepted → IsOneTree g text (run g b n text).reductions (forest_of_run g b n text)
one_tree_of_run {g} {b} m k n text named e =
    let c = run_comes g k.graph b m k.graph_of k.table_of text named n in
    accepted_tree g text (run g b n text).verdict (0 + (run g b n text).steps) c.moves (run g b n text).reductions (forest_of_run g b n text) c.ends e

-- what it accepts is a sentence, and its reductions are the productions of a tree of it
pub sound : {g : Grammar} {b : Table} → IsGrammar g → IsTableFor g b → IsSound g b
sound m k n text named e = let one = one_tree_of_run m k n text named e in (one.0, one.1)

-- a run makes a step for each shift and reduction, and one more where it ends
steps_are : (g : Grammar) (text : List ℕ) (v : Verdict) (s m : ℕ) (rs : List ℕ) (ts : Forest) → Ends g text v s m rs ts → s ≡ m + last_step v
steps_are g text Accepted s m rs ts k = k.0
steps_are g text Rejected s m rs ts k = k
steps_are g text Unfinished s m rs ts k = omega arith
steps_are g text Stuck s m rs ts k = absurd k

-- so many first tokens are those that were used
begins_by :
    (g : Grammar) (text used left : List ℕ) (n : ℕ) → n ≡ length used → used ++ left ≡ text → BeginsSentence g used
    → (n ≤ length text) × BeginsSentence g (take n text)
begins_by g text used left n e u k =
    let t : take n text ≡ used = ap (take n) (sym u) ∙ take_at used left n (sym e) in
    (omega (arith, e, ap length u, length-append used left), rw t k)

-- the tokens that it shifts are those that it has taken of the text
pub shifts_what_is_taken : {g : Grammar} {b : Table} → IsGrammar g → IsTableFor g b → ShiftsWhatIsTaken g b
shifts_what_is_taken {g} {b} m k n text named =
    let a = run g b n text in
    let c = run_comes g k.graph b m k.graph_of k.table_of text named n in
    let left = left_after g b n text in
    let used = forest_leaves (forest_of_run g b n text) in
    let steps : 0 + a.steps ≡ c.moves + last_step a.verdict = steps_are g text a.verdict (0 + a.steps) c.moves a.reductions (forest_of_run g b n text) c.ends in
    let count : c.moves ≡ length used + length a.reductions = c.holds.count in
    let same : shifted a ≡ length used = omega arith in (
      omega (arith, ap length c.holds.used, length-append used left),
      ap (drop (shifted a)) (sym c.holds.used) ∙ (ap (λ i. drop i (used ++ left)) same ∙ drop-append_seam used left),
    )

-- where every rule has a tree, the tokens that it shifts are the beginning of a sentence
pub shifts_beginnings : {g : Grammar} {b : Table} → IsGrammar g → IsTableFor g b → HasTrees g → ShiftsBeginnings g b
shifts_beginnings {g} {b} m k has n text named =
    let a = run g b n text in
    let c = run_comes g k.graph b m k.graph_of k.table_of text named n in
    let steps : 0 + a.steps ≡ c.moves + last_step a.verdict = steps_are g text a.verdict (0 + a.steps) c.moves a.reductions (forest_of_run g b n text) c.ends in
    let used = forest_leaves (forest_of_run g b n text) in
    let count : c.moves ≡ length used + length a.reductions = c.holds.count in
    begins_by g text used (left_after g b n text) (shifted a) (omega arith) c.holds.used (holds_begins m k.graph_of has c.holds)

-- the answer of a run that accepts
abbrev accepted : ℕ → List ℕ → Answer
accepted n rs = record { verdict = Accepted; steps = n; reductions = rs }

-- where no cell is crowded, the text is accepted once the start rule is worked off
then_accepted :
    (g : Grammar) (h : Graph) (b : Table) → IsGrammar g → IsGraphOf g h → IsTableOf g h b → NoCellIsCrowded g h → (r : ℕ) (t : Tree)
    → body_of g g.start_production ≡ Rule r ∷ [] → (u j n : ℕ) → j ≡ length (leaves t) + nodes t → IsStack h (Rule r ∷ []) (u ∷ 0 ∷ [])
    → Moves g b j (at (0 ∷ []) (leaves t ++ []) []) (at (u ∷ 0 ∷ []) [] (order t)) → length (leaves t) + nodes t + 1 ≤ n
    → run g b n (leaves t) ≡ accepted (length (leaves t) + nodes t + 1) (order t)
then_accepted g h b m k o alone r t e u j n i st mv l =
    let leads = stack_leads st in
    let below = stack_below m k st in
    let looks : Looks g (Rule r ∷ []) g.start_production (length (body_of g g.start_production)) (end_token g) =
    rw e (item.Looks.advance item.Looks.begin e) in
    let within = k.hold.looks (Rule r ∷ []) u g.start_production (length (body_of g g.start_production)) (end_token g) leads looks in
    let cell = o.cells u (end_token g) below (omega arith) ∙ only_accept g h u (end_token g) (alone u (end_token g) below) within in
    let done = moves_then_accepts mv (ap (λ a. act g b a (at (u ∷ 0 ∷ []) [] (order t))) cell) n (omega arith) in
    ap (λ s. after g b n (at (s ∷ []) (leaves t) [])) o.start
    ∙ (ap (λ w. after g b n (at (0 ∷ []) w [])) (sym (append-nil (leaves t))) ∙ (done ∙ ap (λ s. accepted (s + 1) (order t)) i))

-- and so it is accepted by its tree
tree_accepted :
    (g : Grammar) (h : Graph) (b : Table) → IsGrammar g → IsGraphOf g h → IsTableOf g h b → NoCellIsCrowded g h → (text : List ℕ)
    (s : IsSentence g text) (n : ℕ) → length text + nodes s.tree + 1 ≤ n → run g b n text ≡ accepted (length text + nodes s.tree + 1) (order s.tree)
tree_accepted g h b m k o alone text s n l =
    let runs = tree_runs g h b m k o alone s.is_tree [] (0 ∷ []) [] [] g.start_production 0 [] stack.IsStack.bottom item.Stands.begin s.start
    (λ q r e i. item.Looks.inherit item.Looks.begin (s.start ∙ ap (λ x. x ∷ []) e) i first.AllNullable.none) in
    subst (λ w. run g b n w ≡ accepted (length w + nodes s.tree + 1) (order s.tree)) s.leaves_are
    (then_accepted g h b m k o alone s.rule s.tree s.start runs.0 runs.1 n runs.2 runs.3 runs.4 (rw s.leaves_are l))

-- where no cell is crowded, each sentence is accepted by each tree of it in exactly its tokens, its nodes and one steps
pub complete : {g : Grammar} {b : Table} → IsGrammar g → IsUncrowded g b → IsComplete g b
complete {g} {b} m k n text s l =
    let e = tree_accepted g k.graph b m k.graph_of k.table_of k.uncrowded text s n l in
    record { verdict = ap (λ a. a.verdict) e; steps = ap (λ a. a.steps) e; reductions = ap (λ a. a.reductions) e }

-- and has one tree
pub one_tree : {g : Grammar} {b : Table} → IsGrammar g → IsUncrowded g b → IsUnambiguous g
one_tree {g} {b} m k text s u =
    let enough : ℕ = length text + nodes s.tree + nodes u.tree + 1 in
    let one = complete m k enough text s (omega arith) in
    let other = complete m k enough text u (omega arith) in
    let roots : Rule s.rule ∷ [] ≡ Rule u.rule ∷ [] = sym s.start ∙ u.start in
    (tree_same s.is_tree u.is_tree (cc) [] [] (sym one.reductions ∙ other.reductions)).0
