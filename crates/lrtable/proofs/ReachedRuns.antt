-- what a run comes to from a config to which the machine comes
use Rattle.std.proofs.Common.{◌≡◌, ℕ, suc, ◌+◌, ◌-◌, ◌<◌, List, ap, ◌∙◌, sym, zero-add, add-zero, add_comm, subst, arith}
use Rattle.lrspec.specs.grammars.Grammar.{Grammar}
use Rattle.lrspec.specs.tables.Table.{Table}
use Rattle.lrspec.specs.tables.Machine.{Config, Goes, Verdict, Unfinished, Answer, step, ended, one_step_more, after_step, after, start_config, run}
use Rattle.lrspec.proofs.tables.MachineMoves as move
use Rattle.lrspec.proofs.tables.MachineMoves.{Moves, moves_append}
use Rattle.lrtable.specs.Reached.{IsReachedIn}

-- the answer of a run that has made so many steps more before
abbrev steps_more : ℕ → Answer → Answer
steps_more n a = record a { steps = a.steps + n }

-- a run from a config is, behind steps that go on, the run from the config to which they come
moves_then : {g : Grammar} {b : Table} {n : ℕ} {c d : Config} → Moves g b n c d → (m : ℕ) → after g b (n + m) c ≡ steps_more n (after g b m d)
moves_then {g} {b} {c = c} move.Moves.none m =
    let a = after g b m c in
    ap (λ i. after g b i c) (zero-add m) ∙ ap (λ i. record a { steps = i }) (sym (add-zero a.steps))
moves_then {g} {b} {c = c} {d = e} (move.Moves.more {n = n} {d = d} s p) m =
    let one : suc n + m ≡ suc (n + m) = omega arith in
    let a = after g b m e in
    let more : a.steps + n + 1 ≡ a.steps + suc n = omega arith in
    ap (λ i. after g b i c) one
    ∙ (ap (λ x. after_step (λ d. after g b (n + m) d) x c) s ∙ (ap one_step_more (moves_then p m) ∙ ap (λ i. record a { steps = i }) more))

-- a run of just the steps that were made is unfinished
pub run_unfinished :
    (g : Grammar) (b : Table) (text : List ℕ) (n : ℕ) (c : Config) → IsReachedIn g b text n c
    → run g b n text ≡ record { verdict = Unfinished; steps = n; reductions = c.reductions }
run_unfinished g b text n c r =
    ap (λ i. run g b i text) (sym (add-zero n))
    ∙ (moves_then r 0 ∙ ap (λ i. record { verdict = Unfinished; steps = i; reductions = c.reductions }) (zero-add n))

-- a run that makes the next step comes to its end there where that step ends it
pub run_ended :
    (g : Grammar) (b : Table) (text : List ℕ) (n m : ℕ) (c : Config) (v : Verdict) → IsReachedIn g b text n c → n < m
    → ((go : Config → Answer) → after_step go (step g b c) c ≡ ended v 1 c) → run g b m text ≡ ended v (n + 1) c
run_ended g b text n m c v r l e =
    let k : ℕ = m - n - 1 in
    let all : m ≡ n + suc k = omega arith in
    ap (λ i. run g b i text) all
    ∙ (moves_then r (suc k) ∙ (ap (steps_more n) (e (λ d. after g b k d)) ∙ ap (λ i. ended v i c) (add_comm 1 n)))

-- the machine is at its start before its first step
pub reached_first : (g : Grammar) (b : Table) (text : List ℕ) (c : Config) → c ≡ start_config b text → IsReachedIn g b text 0 c
reached_first g b text c e = subst (λ d. Moves g b 0 (start_config b text) d) (sym e) move.Moves.none

-- a step that goes on leads to the next config
pub reached_next :
    (g : Grammar) (b : Table) (text : List ℕ) (n : ℕ) (c d : Config) → IsReachedIn g b text n c → step g b c ≡ Goes d → IsReachedIn g b text (n + 1) d
reached_next g b text n c d r e = moves_append r (move.Moves.more e move.Moves.none)
