-- the machine step by step
use Rattle.std.proofs.Common.{◌≡◌, ℕ, ◌+◌, ◌<◌, List, [], ◌∷◌, ◌++◌, length, map, refl, ap, ◌∙◌, arith}
use Rattle.std.proofs.lemmas.List.{length-append}
use Rattle.lrgrammar.specs.declared.idx.StIdx.{StIdx}
use Rattle.lrgrammar.specs.declared.idx.TIdx.{TIdx}
use Rattle.lrgrammar.specs.declared.idx.PIdx.{PIdx}
use Rattle.lrspec.specs.grammars.Grammar.{Grammar}
use Rattle.lrspec.specs.tables.Table as table
use Rattle.lrspec.specs.tables.Table.{Table}
use Rattle.lrspec.specs.tables.Machine.{Goes, reduce_by, act}
use Rattle.lrtable.specs.RunAnswers.{text_of}
use Rattle.lrtable.proofs.ReachedRuns.{reached_first, reached_next}
use Rattle.lrtable.proofs.MachineSteps.{step_shifts}
use Rattle.lrgrammar.specs.Symbols.{number_of}
use Rattle.lrcharts.specs.declared.machine.Machine.{Machine}
use Rattle.lrcharts.specs.Machines.{config_of, cell_of, HasCome}

-- before the first step
pub has_begun :
    (g : Grammar) (b : Table) (text : List (TIdx ℕ)) (m : Machine) (s : StIdx ℕ) → m.stack.items ≡ s ∷ [] → m.used ≡ 0 → number_of s.0 ≡ b.start
    → HasCome g b text 0 m
has_begun g b text m s stack used start = record {
  reductions = [];
  reached = reached_first g b (text_of number_of text) (config_of m text []) (rw (stack, used, start) refl);
  deep = rw stack (omega arith);
}

module _ (g : Grammar) (b : Table) (text : List (TIdx ℕ)) (n : ℕ) (m : Machine) (come : HasCome g b text n m) where
  -- behind a shift
  pub has_shifted :
      (new : Machine) (s : StIdx ℕ) → cell_of g b m text ≡ table.Action.Shift (number_of s.0) → new.stack.items ≡ m.stack.items ++ s ∷ []
      → new.used ≡ m.used + 1 → HasCome g b text (n + 1) new
  has_shifted new s cell stack used = record {
    reductions = come.reductions;
    reached = reached_next g b (text_of number_of text) n (config_of m text come.reductions) (config_of new text come.reductions) come.reached
        (rw used (step_shifts g b (λ (x : StIdx ℕ). number_of x.0) m.stack.items new.stack.items s (text_of number_of text) (map (λ (p : PIdx ℕ). number_of p.0) come.reductions) m.used cell stack));
    deep = rw stack (omega (arith, length-append m.stack.items (s ∷ [])));
  }

  -- behind a reduction
  pub has_reduced :
      (new : Machine) (p : PIdx ℕ) → cell_of g b m text ≡ table.Action.Reduce (number_of p.0)
      → ((rs : List (PIdx ℕ)) → reduce_by g b (number_of p.0) (config_of m text rs) ≡ Goes (config_of new text (rs ++ p ∷ [])))
      → 0 < length new.stack.items → HasCome g b text (n + 1) new
  has_reduced new p cell made deep =
      let c = config_of m text come.reductions in
      record {
        reductions = come.reductions ++ p ∷ [];
        reached = reached_next g b (text_of number_of text) n c (config_of new text (come.reductions ++ p ∷ [])) come.reached
            (ap (λ a. act g b a c) cell ∙ made come.reductions);
        deep = deep;
      }
