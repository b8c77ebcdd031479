-- texts, and how runs come out, by numbers
use Rattle.std.specs.Prelude.{ℕ, List, map}
use Rattle.lrgrammar.specs.declared.idx.TIdx.{TIdx}
use Rattle.lrspec.specs.tables.Machine as math
use Rattle.lrspec.specs.tables.Machine.{Answer}
use Rattle.lrtable.specs.declared.machine.runs.Run.{Run}
use Rattle.lrtable.specs.declared.machine.runs.Verdict.{Verdict}
use Rattle.lrtable.specs.declared.machine.runs.Verdict.TheVariants.{Accepted, Rejected, Unfinished}

-- the text by the numbers of its tokens
abbrev pub text_of : {T : Type 0} → (T → ℕ) → List (TIdx T) → List ℕ
text_of number text = map (λ t. number t.0) text

-- the verdict
abbrev pub verdict_of : Verdict → math.Verdict
verdict_of Accepted = math.Accepted
verdict_of Rejected = math.Rejected
verdict_of Unfinished = math.Unfinished

-- how the run came out
abbrev pub answer_of : {T : Type 0} → (T → ℕ) → Run T → Answer
answer_of number r = record {
  verdict = verdict_of r.verdict;
  steps = r.steps;
  reductions = map (λ p. number p.0) r.reductions.items;
}
