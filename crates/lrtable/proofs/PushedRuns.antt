-- the texts of how runs come out
use Rattle.std.proofs.Common.{◌≡◌, ◌++◌, append_assoc, ℕ, List, map, ap, sym, ◌∙◌, Result, Ok, Err}
use Rattle.std.specs.Prelude.{codes, if◌then◌else◌, OnOk}
use Rattle.std.specs.Fmt.{decimal}
use Rattle.std.specs.Result.{is_ok}
use Rattle.lrspec.specs.grammars.Grammar.{Grammar}
use Rattle.lrspec.specs.texts.MachineLines.{reductions_text, run_text, verdict_text}
use Rattle.lrgrammar.specs.declared.idx.PIdx.{PIdx}
use Rattle.lrtable.specs.declared.machine.runs.Run.{Run}
use Rattle.lrtable.specs.declared.machine.runs.Verdict.{Verdict}
use Rattle.lrtable.specs.declared.machine.runs.Verdict.TheVariants.{Accepted, Rejected, Unfinished}
use Rattle.lrtable.specs.RunAnswers.{answer_of, verdict_of}

-- what is written where all goes well
written : {X E : Type 0} (r : Result X E) (new old piece whole : List ℕ) → new ≡ if is_ok r then old ++ piece else old → piece ≡ whole → OnOk r (new ≡ old ++ whole)
written (Ok x) new old piece whole e p = e ∙ ap (λ t. old ++ t) p
written (Err x) new old piece whole e p = tt

-- what is written goes on from what was written before
goes_on :
    {X E : Type 0} (r : Result X E) (new before old front back rest whole : List ℕ) → OnOk r (new ≡ before ++ back) → before ≡ old ++ front → back ≡ rest
    → front ++ rest ≡ whole → OnOk r (new ≡ old ++ whole)
goes_on (Ok x) new before old front back rest whole h e b w =
    h ∙ (ap (λ t. t ++ back) e ∙ (append_assoc old front back ∙ ap (λ t. old ++ t) (ap (λ t. front ++ t) b ∙ w)))
goes_on (Err x) new before old front back rest whole h e b w = tt

module _ {T : Type 0} (number : T → ℕ) (g : Grammar) (r : Run T) where
  -- a text that tells a verdict
  told : (v : Verdict) (t : List ℕ) → r.verdict ≡ v → t ≡ verdict_text g (verdict_of v) r.steps (map (λ p. number p.0) r.reductions.items) → t ≡ run_text g (answer_of number r)
  told v t e p = p ∙ ap (λ (w : Verdict). verdict_text g (verdict_of w) r.steps (map (λ p. number p.0) r.reductions.items)) (sym e)

  module _ {X E : Type 0} (o : Result X E) (new old piece : List ℕ) where
    pub rejected :
        r.verdict ≡ Rejected → new ≡ if is_ok o then old ++ piece else old → piece ≡ codes "reject " ++ decimal r.steps
        → OnOk o (new ≡ old ++ run_text g (answer_of number r))
    rejected e n p = written o new old piece (run_text g (answer_of number r)) n (told Rejected piece e p)

    pub unfinished :
        r.verdict ≡ Unfinished → new ≡ if is_ok o then old ++ piece else old → piece ≡ codes "unfinished " ++ decimal r.steps
        → OnOk o (new ≡ old ++ run_text g (answer_of number r))
    unfinished e n p = written o new old piece (run_text g (answer_of number r)) n (told Unfinished piece e p)

    pub accepted :
        (before : List ℕ) (ps : List (PIdx T)) → r.verdict ≡ Accepted → ps ≡ r.reductions.items → before ≡ old ++ piece
        → piece ≡ codes "accept " ++ (decimal r.steps ++ codes ":") → OnOk o (new ≡ before ++ reductions_text g (map (λ p. number p.0) ps))
        → OnOk o (new ≡ old ++ run_text g (answer_of number r))
    accepted before ps e s b p h =
        let rest = reductions_text g (map (λ p. number p.0) r.reductions.items) in
        let whole : piece ++ rest ≡ ((codes "accept " ++ decimal r.steps) ++ codes ":") ++ rest =
        ap (λ t. t ++ rest) (p ∙ sym (append_assoc (codes "accept ") (decimal r.steps) (codes ":"))) in
        goes_on o new before old piece (reductions_text g (map (λ p. number p.0) ps)) rest (run_text g (answer_of number r)) h b
        (ap (λ qs. reductions_text g (map (λ p. number p.0) qs)) s) (told Accepted (piece ++ rest) e whole)
