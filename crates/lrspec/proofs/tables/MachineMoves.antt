-- steps of the machine that go on, and many in a row
use Rattle.std.proofs.Common.{◌≡◌, ℕ, zero, suc, ◌+◌, ◌<◌, ◌≤◌, List, [], ◌∷◌, ◌++◌, length, drop, refl, ap, ◌∙◌, zero-add, length-append, arith, Option, None, Some, Bool, true, false, cond}
use Rattle.std.proofs.lemmas.Bool.{lt-leb}
use Rattle.std.proofs.lemmas.List.{drop_at}
use Rattle.lrspec.specs.grammars.Grammar.{Grammar, body_of, rule_of}
use Rattle.lrspec.specs.tables.Table as table
use Rattle.lrspec.specs.tables.Table.{Table, action_of, goto_of}
use Rattle.lrspec.specs.tables.Machine.{Config, Goes, Accepts, Sticks, top, next_token, reduced, reduce_by, act, step, Accepted, one_step_more, after_step, after}

-- so many steps, each of which goes on
pub data Moves (g : Grammar) (b : Table) : ℕ → Config → Config → Type 0 where
  none : {c : Config} → Moves g b 0 c c
  more : {n : ℕ} {c d e : Config} → step g b c ≡ Goes d → Moves g b n d e → Moves g b (suc n) c e

-- a machine with this stack, rest of the text and reductions
abbrev pub at : List ℕ → List ℕ → List ℕ → Config
at ss left rs = record { stack = ss; left = left; reductions = rs }

-- steps, and then more steps
pub moves_append : {g : Grammar} {b : Table} {n m : ℕ} {c d e : Config} → Moves g b n c d → Moves g b m d e → Moves g b (n + m) c e
moves_append none q = rw zero-add q
moves_append {m = m} (more {n = n} s p) q = let k : suc n + m ≡ suc (n + m) = omega arith in rw k (more s (moves_append p q))

-- a shift is one step
pub move_by_shift :
    (g : Grammar) (b : Table) (t u : ℕ) (ss left rs : List ℕ) → action_of b (top ss) t ≡ table.Action.Shift u
    → Moves g b 1 (at ss (t ∷ left) rs) (at (u ∷ ss) left rs)
move_by_shift g b t u ss left rs e = more (ap (λ a. act g b a (at ss (t ∷ left) rs)) e) none

-- a reduction goes on where the stack is deep enough and the goto is there
reduced_goes :
    (x : Bool) (o : Option ℕ) (p u : ℕ) (us ss : List ℕ) (c : Config) → x ≡ false → o ≡ Some u → us ≡ ss
    → cond x Sticks (reduced o p us c) ≡ Goes (at (u ∷ ss) c.left (c.reductions ++ p ∷ []))
reduced_goes true o p u us ss c e f h = cc
reduced_goes false None p u us ss c e f h = cc
reduced_goes false (Some v) p u us ss c e f h = let k : v ≡ u = cc in rw (k, h) refl

-- a reduction is one step, which replaces the states of the body by one
pub move_by_reduce :
    (g : Grammar) (b : Table) (p u : ℕ) (us ss left rs : List ℕ) → length us ≡ length (body_of g p) → 0 < length ss
    → action_of b (top (us ++ ss)) (next_token g left) ≡ table.Action.Reduce p → goto_of b (top ss) (rule_of g p) ≡ Some u
    → Moves g b 1 (at (us ++ ss) left rs) (at (u ∷ ss) left (rs ++ p ∷ []))
move_by_reduce g b p u us ss left rs len some e f =
    let d : drop (length (body_of g p)) (us ++ ss) ≡ ss = drop_at us ss (length (body_of g p)) len in
    let s : reduce_by g b p (at (us ++ ss) left rs) ≡ Goes (at (u ∷ ss) left (rs ++ p ∷ [])) =
    reduced_goes _ _ p u (drop (length (body_of g p)) (us ++ ss)) ss (at (us ++ ss) left rs)
    (lt-leb (length (us ++ ss)) (length (body_of g p)) (omega (arith, length-append us ss)))
    (ap (λ l. goto_of b (top l) (rule_of g p)) d ∙ f) d in
    more (ap (λ a. act g b a (at (us ++ ss) left rs)) e ∙ s) none

-- a run that goes on for `n` steps and then accepts takes one step more, wherever that many are allowed
pub moves_then_accepts :
    {g : Grammar} {b : Table} {n : ℕ} {c d : Config} → Moves g b n c d → step g b d ≡ Accepts → (m : ℕ) → n + 1 ≤ m
    → after g b m c ≡ record { verdict = Accepted; steps = n + 1; reductions = d.reductions }
moves_then_accepts none a zero l = absurd (omega arith)
moves_then_accepts {g} {b} {c = c} none a (suc m) l = ap (λ x. after_step (λ d. after g b m d) x c) a
moves_then_accepts (more s p) a zero l = absurd (omega arith)
moves_then_accepts {g} {b} {c = c} {d = e} (more {n = n} {d = d} s p) a (suc m) l =
    let behind : after g b m d ≡ record { verdict = Accepted; steps = n + 1; reductions = e.reductions } = moves_then_accepts p a m (omega arith) in
    let k : n + 1 + 1 ≡ suc n + 1 = omega arith in
    ap (λ x. after_step (λ d. after g b m d) x c) s
    ∙ (ap one_step_more behind ∙ ap (λ i. record { verdict = Accepted; steps = i; reductions = e.reductions }) k)
