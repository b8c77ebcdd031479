-- what holds of a config to which the machine comes
use Rattle.std.proofs.Common.{◌≡◌, ℕ, ◌+◌, ◌<◌, List, [], ◌∷◌, ◌++◌, length, drop, refl, sym, ap, ◌∙◌, subst, length-append, arith, Option, None, Some, Bool, true, false, cond}
use Rattle.std.proofs.lemmas.List.Elements.{All-head, All-tail}
use Rattle.lrspec.specs.grammars.Grammar.{Grammar, IsGrammar, body_of, end_token, token_count}
use Rattle.lrspec.specs.grammars.Trees.{Forest, Leaf, Bare, And, forest_leaves, joined}
use Rattle.lrspec.specs.merging.Graph.{Graph, closed_of, IsGraphOf}
use Rattle.lrspec.specs.tables.Table as table
use Rattle.lrspec.specs.tables.Table.{Table, Action, IsTableOf, IsTableFor, action_of}
use Rattle.lrspec.specs.tables.Machine.{Config, Outcome, Goes, Accepts, Rejects, Sticks, top, next_token, reduced, act}
use Rattle.lrspec.specs.tables.Recognition.{AreNamed}
use Rattle.lrspec.proofs.tables.CellFacts.{looks_from_reduce}
use Rattle.lrspec.proofs.grammars.TreeFacts.{leaves_pushed}
use Rattle.lrspec.proofs.tables.MachineStacks.{stack_length, stack_below, look_fits}
use Rattle.lrspec.proofs.tables.MachineInvariant.{Holds, shift_holds, reduce_holds}
use Rattle.lrspec.proofs.tables.MachineMoves as move
use Rattle.lrspec.proofs.tables.MachineMoves.{Moves}
use Rattle.lrspec.proofs.tables.MachineRuns.{start_holds}
use Rattle.lrtable.specs.Reached.{IsReached, CanReduce}

-- what holds goes on holding where a step goes on
abbrev GoesOn : Grammar → Graph → List ℕ → ℕ → Outcome → Type 0
GoesOn g h text n (Goes d) = (ts : Forest) × Holds g h text n d.stack d.left d.reductions ts
GoesOn g h text n Accepts = Unit {0}
GoesOn g h text n Rejects = Unit {0}
GoesOn g h text n Sticks = Unit {0}

-- a reduction goes on where the stack is deep enough and the goto is there
goes_on :
    (g : Grammar) (h : Graph) (text : List ℕ) (n : ℕ) (x : Bool) (o : Option ℕ) (p v : ℕ) (us : List ℕ) (c : Config) (ts : Forest)
    → o ≡ Some v → Holds g h text n (v ∷ us) c.left (c.reductions ++ p ∷ []) ts → GoesOn g h text n (cond x Sticks (reduced o p us c))
goes_on g h text n true o p v us c ts i a = tt
goes_on g h text n false None p v us c ts i a = cc
goes_on g h text n false (Some u) p v us c ts i a =
    let s : v ≡ u = cc in (ts, subst (λ w. Holds g h text n (w ∷ us) c.left (c.reductions ++ p ∷ []) ts) s a)

-- behind what was used, the next token is one of the grammar
next_below : (g : Grammar) (used left : List ℕ) → AreNamed g (used ++ left) → next_token g left < token_count g
next_below g [] [] k = omega arith
next_below g [] (t ∷ ts) k = let l : t < end_token g = All-head (λ t. t < end_token g) t ts k in omega arith
next_below g (a ∷ used) left k = next_below g used left (All-tail (λ t. t < end_token g) a (used ++ left) k)

module _ (g : Grammar) (h : Graph) (b : Table) (m : IsGrammar g) (k : IsGraphOf g h) (o : IsTableOf g h b) (text : List ℕ) (named : AreNamed g text) where
  -- it holds behind what each cell has the machine do
  act_holds :
      (n : ℕ) (c : Config) (ts : Forest) → Holds g h text n c.stack c.left c.reductions ts → (x : Action)
      → action_of b (top c.stack) (next_token g c.left) ≡ x → GoesOn g h text (n + 1) (act g b x c)
  act_holds n c ts a (table.Action.Shift u) e =
      (joined ts (And (Leaf (next_token g c.left)) Bare), shift_holds g h b m k o text named u a e)
  act_holds n c ts a (table.Action.Reduce p) e =
      let r = reduce_holds g h b m k o text named p a e in
      goes_on g h text (n + 1) _ _ p r.target (drop (length (body_of g p)) c.stack) c _ r.goto (r.holds r.cut.0 r.cut.1 r.cut.2 r.cut.3)
  act_holds n c ts a table.Action.Accept e = tt
  act_holds n c ts a table.Action.Error e = tt

  -- it holds behind steps that go on
  moves_hold :
      {n : ℕ} {c d : Config} (i : ℕ) (ts : Forest) → Holds g h text i c.stack c.left c.reductions ts → Moves g b n c d
      → (j : ℕ) × (us : Forest) × Holds g h text j d.stack d.left d.reductions us
  moves_hold i ts a move.Moves.none = (i, ts, a)
  moves_hold {c = c} i ts a (move.Moves.more s p) =
      let q = subst (GoesOn g h text (i + 1)) s (act_holds i c ts a (action_of b (top c.stack) (next_token g c.left)) refl) in
      moves_hold (i + 1) q.0 q.1 p

  -- it holds of each config to which the machine comes
  reached_holds : (c : Config) → IsReached g b text c → (j : ℕ) × (us : Forest) × Holds g h text j c.stack c.left c.reductions us
  reached_holds c r = moves_hold 0 Bare (start_holds g h b m k o text named) r.1

  -- where the cell reduces there, it is by a production
  production_below :
      (j : ℕ) (c : Config) (us : Forest) (p : ℕ) → Holds g h text j c.stack c.left c.reductions us
      → action_of b (top c.stack) (next_token g c.left) ≡ table.Action.Reduce p → p < length g.productions
  production_below j c us p a e =
      let below = stack_below m k a.is_stack in
      let cell = o.cells (top c.stack) (next_token g c.left) below (next_below g (forest_leaves us) c.left (rw a.used named)) in
      let i = looks_from_reduce g h (top c.stack) (next_token g c.left) p (sym cell ∙ e) in
      (look_fits (closed_of h (top c.stack)) p (length (body_of g p)) (next_token g c.left) (k.closures.fit_closed (top c.stack) below) i.1).0

-- where the cell reduces, the machine can do so
pub can_reduce :
    (g : Grammar) (b : Table) (text : List ℕ) (c : Config) (p : ℕ) → IsGrammar g → IsTableFor g b → AreNamed g text → IsReached g b text c
    → action_of b (top c.stack) (next_token g c.left) ≡ table.Action.Reduce p → CanReduce g b p c.stack
can_reduce g b text c p m k named r e =
    let a = reached_holds g k.graph b m k.graph_of k.table_of text named c r in
    let by = reduce_holds g k.graph b m k.graph_of k.table_of text named p a.2 e in
    record { production = production_below g k.graph b m k.graph_of k.table_of text named a.0 c a.1 p a.2 e; deep = by.deep; goto = (by.target, by.goto) }

-- where the cell shifts, there is a token left
pub can_shift :
    (g : Grammar) (b : Table) (text : List ℕ) (c : Config) (u : ℕ) → IsGrammar g → IsTableFor g b → AreNamed g text → IsReached g b text c
    → action_of b (top c.stack) (next_token g c.left) ≡ table.Action.Shift u → 0 < length c.left
can_shift g b text c u m k named r e =
    let (j, us, a) = reached_holds g k.graph b m k.graph_of k.table_of text named c r in
    let s = shift_holds g k.graph b m k.graph_of k.table_of text named u a e in
    let t : ℕ = next_token g c.left in
    let l : forest_leaves (joined us (And (Leaf t) Bare)) ≡ forest_leaves us ++ t ∷ [] = leaves_pushed us (Leaf t) in
    omega (
      arith,
      ap length a.used,
      ap length s.used,
      ap length l,
      length-append (forest_leaves us) c.left,
      length-append (forest_leaves us) (t ∷ []),
      length-append (forest_leaves (joined us (And (Leaf t) Bare))) (drop 1 c.left),
    )

-- the stack is never empty
pub stack_there :
    (g : Grammar) (b : Table) (text : List ℕ) (c : Config) → IsGrammar g → IsTableFor g b → AreNamed g text → IsReached g b text c → 0 < length c.stack
stack_there g b text c m k named r =
    let a = reached_holds g k.graph b m k.graph_of k.table_of text named c r in
    omega (arith, stack_length a.2.is_stack)
