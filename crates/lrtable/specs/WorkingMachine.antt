-- the machine at work as a config, and what its steps answer
use Rattle.std.specs.Prelude.{◌≡◌, ℕ, List, map, reverse, drop, Option, None, Some}
use Rattle.lrgrammar.specs.declared.idx.StIdx.{StIdx}
use Rattle.lrgrammar.specs.declared.idx.TIdx.{TIdx}
use Rattle.lrspec.specs.tables.Machine.{Config, Outcome, Goes, Accepts, Rejects}
use Rattle.lrtable.specs.RunAnswers.{text_of}
use Rattle.lrtable.specs.declared.machine.runs.Verdict.{Verdict}
use Rattle.lrtable.specs.declared.machine.runs.Verdict.TheVariants.{Accepted, Rejected, Unfinished}
use Rattle.lrtable.specs.declared.machine.running.Machine.{Machine}

-- the stack, which is kept with its top last
abbrev pub stack_of : {T : Type 0} → (T → ℕ) → List (StIdx T) → List ℕ
stack_of number states = reverse (map (λ s. number s.0) states)

-- the machine at work on the text
abbrev pub config_of : {T : Type 0} → (T → ℕ) → Machine T → List (TIdx T) → Config
config_of number m text = record {
  stack = stack_of number m.stack.items;
  left = drop m.used (text_of number text);
  reductions = map (λ p. number p.0) m.reductions.items;
}

-- what a step answers, which finds the machine at one config and leaves it at the other: nothing
-- where it goes on, and the verdict where it ends the run
abbrev pub Tells : Option Verdict → Config → Config → Outcome → Type 0
Tells None c d x = x ≡ Goes d
Tells (Some Accepted) c d x = (x ≡ Accepts) × (d ≡ c)
Tells (Some Rejected) c d x = (x ≡ Rejects) × (d ≡ c)
Tells (Some Unfinished) c d x = ⊥
