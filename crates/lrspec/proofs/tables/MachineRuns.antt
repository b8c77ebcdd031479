-- what each run of the machine comes to
use Rattle.std.proofs.Common.{◌≡◌, ℕ, zero, suc, ◌+◌, ◌-◌, ◌≤◌, List, [], ◌∷◌, ◌++◌, length, drop, refl, sym, ap, ◌∙◌, subst, append-nil, arith, Option, None, Some, Bool, true, false, cond}
use Rattle.std.proofs.lemmas.Bool.{lt-leb}
use Rattle.lrspec.specs.grammars.Grammar.{Grammar, IsGrammar, body_of}
use Rattle.lrspec.specs.grammars.Trees.{Forest, Bare, And, order, forest_order, size, first_trees, trees_behind, bare, IsSentence}
use Rattle.lrspec.specs.merging.Graph.{Graph, IsGraphOf}
use Rattle.lrspec.specs.tables.Table as table
use Rattle.lrspec.specs.tables.Table.{Table, Action, IsTableOf, action_of}
use Rattle.lrspec.specs.tables.Machine.{Config, Outcome, Goes, Accepts, Rejects, Sticks, top, next_token, reduced, act, step, Verdict, Accepted, Rejected, Unfinished, Stuck, Answer, after_step, after, run, stands_behind, stands_after, start_config}
use Rattle.lrspec.specs.tables.TreeMachine.{grown, forest_behind, grows, forest_after, forest_of_run}
use Rattle.lrspec.specs.tables.Recognition.{AreNamed}
use Rattle.lrspec.proofs.tables.MachineStacks as stack
use Rattle.lrspec.proofs.grammars.TreeFacts.{first_and_behind, size_behind, size_joined}
use Rattle.lrspec.proofs.tables.MachineInvariant.{Holds, shift_holds, reduce_holds, accept_holds}

-- the text is a sentence, the forest is one tree of it, and the reductions are the productions of that tree
abbrev pub IsOneTree : Grammar → List ℕ → List ℕ → Forest → Type 0
IsOneTree g text rs ts = (s : IsSentence g text) × (order s.tree ≡ rs) × (ts ≡ And s.tree Bare)

-- what one more step comes to, from the forest `ts`: what holds goes on holding with the forest `us`; or the forest is
-- one tree of the text; or the text is rejected
abbrev Comes : Grammar → Graph → List ℕ → ℕ → List ℕ → Forest → Forest → Outcome → Type 0
Comes g h text n rs ts us (Goes d) = Holds g h text (n + 1) d.stack d.left d.reductions us
Comes g h text n rs ts us Accepts = IsOneTree g text rs ts
Comes g h text n rs ts us Rejects = Unit {0}
Comes g h text n rs ts us Sticks = ⊥

-- a reduction goes on where the stack is deep enough and the goto is there
goes_on :
    (g : Grammar) (h : Graph) (text : List ℕ) (n : ℕ) (x : Bool) (o : Option ℕ) (p v : ℕ) (ss us left rs : List ℕ) (ts zs : Forest)
    → x ≡ false → o ≡ Some v → Holds g h text (n + 1) (v ∷ us) left (rs ++ p ∷ []) zs
    → Comes g h text n rs ts zs (cond x Sticks (reduced o p us (record { stack = ss; left = left; reductions = rs })))
goes_on g h text n true o p v ss us left rs ts zs e i a = cc
goes_on g h text n false None p v ss us left rs ts zs e i a = cc
goes_on g h text n false (Some u) p v ss us left rs ts zs e i a =
    let s : v ≡ u = cc in subst (λ w. Holds g h text (n + 1) (w ∷ us) left (rs ++ p ∷ []) zs) s a

-- how a run ends, by its verdict, where it has made `s` steps, of which `m` were shifts and reductions, and has the forest
-- `ts`
abbrev pub Ends : Grammar → List ℕ → Verdict → ℕ → ℕ → List ℕ → Forest → Type 0
Ends g text Accepted s m rs ts = (s ≡ m + 1) × IsOneTree g text rs ts
Ends g text Rejected s m rs ts = s ≡ m + 1
Ends g text Unfinished s m rs ts = s ≡ m
Ends g text Stuck s m rs ts = ⊥

-- what a run comes to that had made `k` steps before; where the machine stands then, and its forest
pub record CameTo (g : Grammar) (h : Graph) (text : List ℕ) (k : ℕ) (a : Answer) (d : Config) (ts : Forest) : Type 0 where
  pub moves : ℕ
  pub holds : Holds g h text moves d.stack d.left a.reductions ts
  pub ends : Ends g text a.verdict (k + a.steps) moves a.reductions ts

-- a run goes on behind its first step, or ends with it
by_outcome :
    (g : Grammar) (h : Graph) (text : List ℕ) (k : ℕ) (ss left rs : List ℕ) (ts us : Forest) → Holds g h text k ss left rs ts
    → (go : Config → Answer) (to : Config → Config) (grow : Config → Forest)
    → ((d : Config) → Holds g h text (k + 1) d.stack d.left d.reductions us → CameTo g h text (k + 1) (go d) (to d) (grow d))
    → (x : Outcome) → Comes g h text k rs ts us x
    → let c : Config = record { stack = ss; left = left; reductions = rs } in
    CameTo g h text k (after_step go x c) (stands_behind to x c) (grows grow x ts)
by_outcome g h text k ss left rs ts us a go to grow on (Goes d) i =
    let c = on d i in
    let e : k + 1 + (go d).steps ≡ k + ((go d).steps + 1) = omega arith in
    record {
      moves = c.moves;
      holds = c.holds;
      ends = subst (λ s. Ends g text (go d).verdict s c.moves (go d).reductions (grow d)) e c.ends;
    }
by_outcome g h text k ss left rs ts us a go to grow on Accepts i = record { moves = k; holds = a; ends = (refl, i) }
by_outcome g h text k ss left rs ts us a go to grow on Rejects i = record { moves = k; holds = a; ends = refl }
by_outcome g h text k ss left rs ts us a go to grow on Sticks i = absurd i

module _ (g : Grammar) (h : Graph) (b : Table) (m : IsGrammar g) (k : IsGraphOf g h) (o : IsTableOf g h b) (text : List ℕ) (named : AreNamed g text) where
  -- what each cell comes to
  act_comes :
      (n : ℕ) (ss left rs : List ℕ) (ts : Forest) → Holds g h text n ss left rs ts → (x : Action)
      → action_of b (top ss) (next_token g left) ≡ x
      → Comes g h text n rs ts (grown g x (next_token g left) ts) (act g b x (record { stack = ss; left = left; reductions = rs }))
  act_comes n ss left rs ts a (table.Action.Shift u) e = shift_holds g h b m k o text named u a e
  act_comes n ss left rs ts a (table.Action.Reduce p) e =
      let r = reduce_holds g h b m k o text named p a e in
      let len : ℕ = length (body_of g p) in
      let kept : ℕ = size ts - len in
      let fits : len ≤ size ts = omega (arith, r.cut.3, ap size r.cut.2, size_joined r.cut.0 r.cut.1) in
      let last : size (trees_behind kept ts) ≡ len = size_behind kept ts ∙ omega arith in
      goes_on g h text n _ _ p r.target ss (drop len ss) left rs ts _ (lt-leb (length ss) len r.deep) r.goto
      (r.holds (first_trees kept ts) (trees_behind kept ts) (first_and_behind kept ts) last)
  act_comes n ss left rs ts a table.Action.Accept e =
      let s = accept_holds g h b m k o text named a e in
      (s.0, sym (append-nil (order s.0.tree)) ∙ (ap forest_order (sym s.1) ∙ a.made), s.1)
  act_comes n ss left rs ts a table.Action.Error e = tt

  -- what each number of steps comes to
  after_comes :
      (n i : ℕ) (ss left rs : List ℕ) (ts : Forest) → Holds g h text i ss left rs ts
      → let c : Config = record { stack = ss; left = left; reductions = rs } in
      CameTo g h text i (after g b n c) (stands_after g b n c) (forest_after g b n c ts)
  after_comes zero i ss left rs ts a = record { moves = i; holds = a; ends = omega arith }
  after_comes (suc n) i ss left rs ts a =
      let c : Config = record { stack = ss; left = left; reductions = rs } in
      let us : Forest = forest_behind g b c ts in
      by_outcome g h text i ss left rs ts us a (λ d. after g b n d) (λ d. stands_after g b n d) (λ d. forest_after g b n d us)
      (λ d l. after_comes n (i + 1) d.stack d.left d.reductions us l)
      (step g b c) (act_comes i ss left rs ts a (action_of b (top ss) (next_token g left)) refl)

  -- at the start the stack has the start state alone
  pub start_holds : Holds g h text 0 (b.start ∷ []) text [] Bare
  start_holds = record { symbols = []; is_stack = rw o.start stack.IsStack.bottom; roots = bare; used = refl; made = refl; count = refl }

  -- what each run comes to
  pub run_comes : (n : ℕ) → CameTo g h text 0 (run g b n text) (stands_after g b n (start_config b text)) (forest_of_run g b n text)
  run_comes n = after_comes n 0 (b.start ∷ []) text [] Bare start_holds
