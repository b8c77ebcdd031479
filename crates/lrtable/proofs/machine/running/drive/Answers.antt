use Rattle.std.proofs.Common.{◌≡◌, ℕ, ◌+◌, ◌<◌, List, Some, sym, ap, ◌∙◌, subst, arith}
use Rattle.lrspec.specs.grammars.Grammar.{Grammar}
use Rattle.lrspec.specs.tables.Table.{Table}
use Rattle.lrspec.specs.tables.Machine as math
use Rattle.lrspec.specs.tables.Machine.{Config, Answer, ended, after_step, step}
use Rattle.lrtable.specs.declared.machine.runs.Verdict.{Verdict}
use Rattle.lrtable.specs.declared.machine.runs.Verdict.TheVariants.{Accepted, Rejected, Unfinished}
use Rattle.lrtable.specs.RunAnswers.{text_of, verdict_of}
use Rattle.lrtable.specs.WorkingMachine.{config_of, Tells}
use Rattle.lrtable.specs.Reached.{IsReachedIn}
use Rattle.lrtable.proofs.ReachedRuns.{run_ended, run_unfinished, reached_first, reached_next}
use Rattle.lrtable.proofs.machine.running.drive.Goals as goal

pub loop-made-init : goal.loop-made-init
loop-made-init g c =
    let number = g.T.IndexStorage.number in
    reached_first c.args.grm.now c.args.table.now (text_of number c.args.text.now) (config_of number c.in_ok-machine.machine c.args.text.now)
    (c.in_ok-machine.ensures c.args.text.now)

-- a run ends with the verdict that a step tells
told :
    (g : Grammar) (b : Table) (text : List ℕ) (n m : ℕ) (c d : Config) (v : Verdict) → IsReachedIn g b text n c → n < m
    → Tells (Some v) c d (step g b c) → ended (verdict_of v) (n + 1) d ≡ math.run g b m text
told g b text n m c d Accepted r l (e, s) =
    ap (ended math.Accepted (n + 1)) s ∙ sym (run_ended g b text n m c math.Accepted r l (λ go. ap (λ x. after_step go x c) e))
told g b text n m c d Rejected r l (e, s) =
    ap (ended math.Rejected (n + 1)) s ∙ sym (run_ended g b text n m c math.Rejected r l (λ go. ap (λ x. after_step go x c) e))
told g b text n m c d Unfinished r l e = absurd e

pub returns-in-Some : goal.returns-in-Some
returns-in-Some g c =
    let number = g.T.IndexStorage.number in
    let text = c.args.text.now in
    told c.args.grm.now c.args.table.now (text_of number text) c.loop-made.made c.args.steps (config_of number c.loop-made.machine text)
    (config_of number c.step.new.self text) c.in-Some.verdict c.loop-made.invariant c.loop-made-test.true (rw c.in-Some.is at c.in_ok-verdict.ensures)

pub loop-made-preserved : goal.loop-made-preserved
loop-made-preserved g c =
    let number = g.T.IndexStorage.number in
    let text = c.args.text.now in
    reached_next c.args.grm.now c.args.table.now (text_of number text) c.loop-made.made (config_of number c.loop-made.machine text)
    (config_of number c.step.new.self text) c.loop-made.invariant (rw c.in_default.is at c.in_ok-verdict.ensures)

pub returns : goal.returns
returns g c =
    let number = g.T.IndexStorage.number in
    let text = text_of number c.args.text.now in
    let grm = c.args.grm.now in
    let table = c.args.table.now in
    let config = config_of number c.loop-made.machine c.args.text.now in
    let all : c.loop-made.made ≡ c.args.steps = omega (arith, c.loop-made-test.false, c.loop-made.auto.made-end) in
    sym (run_unfinished grm table text c.args.steps config (subst (λ n. IsReachedIn grm table text n config) all c.loop-made.invariant))
