-- how the code walks
use Rattle.std.proofs.Common.{◌≡◌, ◌≢◌, ℕ, zero, suc, ◌+◌, ◌<◌, ◌≤◌, List, [], ◌∷◌, ◌++◌, length, map, drop, get_or, refl, sym, ap, ◌∙◌, subst, arith, Some, Bool}
use Rattle.std.specs.Option.{option_map}
use Rattle.std.specs.Prelude.{IsTrue, ◌↔◌, slice_get}
use Rattle.std.proofs.lemmas.List.{length-reverse, length-map, length-drop}
use Rattle.std.proofs.lemmas.Option.{slice_get-map, slice_get_read}
use Rattle.lrgrammar.specs.declared.idx.StIdx.{StIdx}
use Rattle.lrgrammar.specs.declared.idx.TIdx.{TIdx}
use Rattle.lrgrammar.specs.declared.idx.PIdx.{PIdx}
use Rattle.lrspec.specs.grammars.Grammar.{Grammar, IsGrammar}
use Rattle.lrspec.specs.tables.Table as table
use Rattle.lrspec.specs.tables.Table.{Table, Action, IsTableFor, action_of}
use Rattle.lrspec.specs.tables.Machine.{Goes, Accepted, Rejected, top, next_token, reduce_by, act, after_step, run}
use Rattle.lrspec.specs.tables.Recognition.{AreNamed}
use Rattle.lrtable.specs.RunAnswers.{text_of}
use Rattle.lrtable.specs.Reached.{CanReduce}
use Rattle.lrtable.proofs.ReachedConfigs.{can_reduce, can_shift, stack_there}
use Rattle.lrtable.proofs.ReachedRuns.{reached_first, reached_next, run_ended}
use Rattle.lrtable.proofs.MachineSteps.{cell_here, step_shifts}
use Rattle.lrconflicts.specs.declared.moves.Move as stored
use Rattle.lrconflicts.specs.Moves.{Move, Reduce}
use Rattle.lrconflicts.specs.StoredMoves.{move_of, moves_stored}
use Rattle.lrlosses.specs.Losses as loss
use Rattle.lrlosses.specs.Losses.{Place, Takes, ComesTo, GoesAlong, PartsAt, machine_after, cell_seen}
use Rattle.lrlosses.specs.declared.walks.Walk.{Walk}
use Rattle.lrlosses.specs.Walks.{HasCome, GoesOn, stack_of, left_of, config_of, cell_of}
use Rattle.lrlosses.proofs.Rejections.{stands_where_reached, unfinished_before}

-- what holds below a number and of it holds below the next one
below_next : (n : ℕ) (P : ℕ → Type 0) → ((i : ℕ) → i < n → P i) → P n → (i : ℕ) → i < suc n → P i
below_next zero P f p zero l = p
below_next zero P f p (suc i) l = absurd (omega arith)
below_next (suc n) P f p zero l = f zero (omega arith)
below_next (suc n) P f p (suc i) l = below_next n (λ j. P (suc j)) (λ j k. f (suc j) (omega arith)) p i (omega arith)

-- along one move more
along_more :
    (g : Grammar) (b : Table) (text : List ℕ) (ms : List Move) (n : ℕ) (m : Move) → GoesAlong g b text ms n → slice_get ms n ≡ Some m
    → Takes (cell_seen g b (machine_after g b text n)) m → GoesAlong g b text ms (n + 1)
along_more g b text ms n m along is taken = λ i l.
    below_next n (λ j. (m : Move) × (slice_get ms j ≡ Some m) × Takes (cell_seen g b (machine_after g b text j)) m) along (m, is, taken) i (omega arith)

-- what takes a move goes on
pub takes_goes : {a : Action} {m : Move} → Takes a m → GoesOn a
takes_goes loss.Takes.shift = tt
takes_goes loss.Takes.reduce = tt

-- a reduction takes that by the same production alone
same_production : {p q : ℕ} → Takes (table.Action.Reduce p) (Reduce q) → p ≡ q
same_production loss.Takes.reduce = refl

-- so it is found by comparing them
pub takes_reduction : (p q : ℕ) (same : Bool) → IsTrue same ↔ (p ≡ q) → IsTrue same ↔ Takes (table.Action.Reduce p) (Reduce q)
takes_reduction p q same e = (λ is. subst (λ n. Takes (table.Action.Reduce p) (Reduce n)) (e.0 is) loss.Takes.reduce, λ t. e.1 (same_production t))

-- the move at a place of the list
next_move :
    {T : Type 0} (number : T → ℕ) (moves : List (stored.Move T)) (m : stored.Move T) (n : ℕ) → n < length moves → m ≡ get_or moves n m
    → slice_get (moves_stored number moves) n ≡ Some (move_of number m)
next_move number moves m n l is =
    slice_get-map (move_of number) moves n ∙ ap (option_map (move_of number)) (slice_get_read moves (length moves) n m refl l is)

module _ {T : Type 0} (number : T → ℕ) (g : Grammar) (b : Table) (text : List (TIdx T)) where
  -- before the first step
  pub has_begun : (w : Walk T) (s : StIdx T) → w.stack.items ≡ s ∷ [] → w.used ≡ 0 → number s.0 ≡ b.start → HasCome number g b text 0 w
  has_begun w s stack used start = record {
    reductions = [];
    reached = reached_first g b (text_of number text) (config_of number w text []) (rw (stack, used, start) refl);
    within = omega arith;
  }

  module _ {n : ℕ} {w : Walk T} (come : HasCome number g b text n w) where
    -- the machine stands where the walk has come
    stands : machine_after g b (text_of number text) n ≡ config_of number w text come.reductions
    stands = stands_where_reached come.reached

    -- the cell of its place is the one at which the machine looks
    pub cell_there :
        (x : Place) (a : Action) → a ≡ action_of b x.state x.token → x.state ≡ top (stack_of number w.stack.items)
        → x.token ≡ next_token g (left_of number w text) → cell_of number g b w text ≡ a
    cell_there x a e state token =
        cell_here b x.state x.token (top (stack_of number w.stack.items)) (next_token g (left_of number w text)) a e state token

    -- the run comes to the place of the walk
    pub comes_to :
        (x : Place) → x.steps ≡ n → x.used ≡ w.used → x.state ≡ top (stack_of number w.stack.items) → x.token ≡ next_token g (left_of number w text)
        → ComesTo g b (text_of number text) x
    comes_to x steps used state token = record {
      goes = unfinished_before come.reached x.steps (omega arith);
      state = ap (λ i. top (machine_after g b (text_of number text) i).stack) steps ∙ (ap (λ c. top c.stack) stands ∙ sym state);
      within = omega (arith, come.within, length-map text (λ t. number t.0));
      left = ap (λ i. (machine_after g b (text_of number text) i).left) steps ∙ (ap (λ c. c.left) stands ∙ ap (λ i. drop i (text_of number text)) (sym used));
      token = ap (λ i. next_token g (drop i (text_of number text))) used ∙ sym token;
    }

    -- it has gone along with one move more, where the cell takes it
    pub goes_along :
        (moves : List (stored.Move T)) (m : stored.Move T) → n < length moves → m ≡ get_or moves n m → Takes (cell_of number g b w text) (move_of number m)
        → GoesAlong g b (text_of number text) (moves_stored number moves) n → GoesAlong g b (text_of number text) (moves_stored number moves) (n + 1)
    goes_along moves m l is taken along =
        along_more g b (text_of number text) (moves_stored number moves) n (move_of number m) along (next_move number moves m n l is)
        (subst (λ c. Takes (cell_seen g b c) (move_of number m)) (sym stands) taken)

    -- where the cell doesn't take the next move, the machine parts from the moves
    pub parts_there :
        (moves : List (stored.Move T)) (m : stored.Move T) (x : Place) → n < length moves → m ≡ get_or moves n m → x.steps ≡ n
        → ComesTo g b (text_of number text) x → ¬ (Takes (action_of b x.state x.token) (move_of number m))
        → GoesAlong g b (text_of number text) (moves_stored number moves) n
        → PartsAt g b (text_of number text) (moves_stored number moves) x (move_of number m)
    parts_there moves m x l is steps comes refused along = record {
      comes = comes;
      along = λ i k. along i (omega (arith, k, steps));
      next = ap (slice_get (moves_stored number moves)) steps ∙ next_move number moves m n l is;
      refused = refused;
    }

    -- a shift
    pub has_shifted :
        (new : Walk T) (s : StIdx T) → cell_of number g b w text ≡ table.Action.Shift (number s.0) → w.used < length text
        → new.stack.items ≡ w.stack.items ++ s ∷ [] → new.used ≡ w.used + 1 → HasCome number g b text (n + 1) new
    has_shifted new s cell there stack used = record {
      reductions = come.reductions;
      reached = reached_next g b (text_of number text) n (config_of number w text come.reductions) (config_of number new text come.reductions) come.reached
          (rw used (step_shifts g b (λ (x : StIdx T). number x.0) w.stack.items new.stack.items s (text_of number text) (map (λ (p : PIdx T). number p.0) come.reductions) w.used cell stack));
      within = omega arith;
    }

    -- a reduction
    pub has_reduced :
        (new : Walk T) (p : PIdx T) → cell_of number g b w text ≡ table.Action.Reduce (number p.0)
        → ((rs : List (PIdx T)) → reduce_by g b (number p.0) (config_of number w text rs) ≡ Goes (config_of number new text (rs ++ p ∷ [])))
        → new.used ≡ w.used → HasCome number g b text (n + 1) new
    has_reduced new p cell made used =
        let c = config_of number w text come.reductions in
        record {
          reductions = come.reductions ++ p ∷ [];
          reached = reached_next g b (text_of number text) n c (config_of number new text (come.reductions ++ p ∷ [])) come.reached
              (ap (λ a. act g b a c) cell ∙ made come.reductions);
          within = omega (arith, come.within);
        }

    module _ (shape : IsGrammar g) (for : IsTableFor g b) (named : AreNamed g (text_of number text)) where
      -- the stack is not empty
      pub stack_deep : 0 < length w.stack.items
      stack_deep =
          let there = stack_there g b (text_of number text) (config_of number w text come.reductions) shape for named (n, come.reached) in
          omega (arith, there, length-reverse (map (λ (s : StIdx T). number s.0) w.stack.items), length-map w.stack.items (λ (s : StIdx T). number s.0))

      -- where the cell shifts, a token is left
      pub token_left : (s : ℕ) → cell_of number g b w text ≡ table.Action.Shift s → w.used < length text
      token_left s cell =
          let there : 0 < length (left_of number w text) =
          can_shift g b (text_of number text) (config_of number w text come.reductions) s shape for named (n, come.reached) cell in
          omega (arith, there, length-drop w.used (text_of number text), length-map text (λ t. number t.0))

      -- where it reduces, the machine can
      pub reduction_there : (p : ℕ) → cell_of number g b w text ≡ table.Action.Reduce p → CanReduce g b p (stack_of number w.stack.items)
      reduction_there p cell = can_reduce g b (text_of number text) (config_of number w text come.reductions) p shape for named (n, come.reached) cell

    -- where the cell accepts, no number of steps behind rejects
    pub accepts : (m : ℕ) → n < m → cell_of number g b w text ≡ table.Action.Accept → (run g b m (text_of number text)).verdict ≢ Rejected
    accepts m l cell =
        let c = config_of number w text come.reductions in
        let ends = run_ended g b (text_of number text) n m c Accepted come.reached l (λ go. ap (λ x. after_step go (act g b x c) c) cell) in
        let verdict : (run g b m (text_of number text)).verdict ≡ Accepted = ap (λ a. a.verdict) ends in
        λ no. cc

    -- no fewer steps reject
    pub not_yet : (m : ℕ) → m ≤ n → (run g b m (text_of number text)).verdict ≢ Rejected
    not_yet m l = let verdict = unfinished_before come.reached m l in λ no. cc
