-- of the steps that are left out each puts a node over one tree alone
use Rattle.std.proofs.Common.{arith, ◌≡◌, ℕ, zero, suc, ◌+◌, ◌≤◌, Bool, true, false, cond, not, List, [], ◌∷◌, map, refl, sym, ap, ◌∙◌}
use Rattle.std.proofs.lemmas.Bool.Decides.{nat_tests}
use Rattle.std.proofs.lemmas.List.Folds.{length-prefix_len}
use Rattle.std.specs.List.{prefix_len}
use Rattle.lryacc.specs.declared.numbering.FileGrammar.{FileGrammar}
use Rattle.lrshown.specs.declared.steps.Step.{Step}
use Rattle.lrshown.specs.declared.steps.Step.TheVariants.{Shift, Reduce}
use Rattle.lrshown.specs.Chains.{is_unit, others, units, all_but_last, left_out_behind, kept_from, steps_kept}

all_but_last-below : (n : ℕ) → all_but_last n ≤ n
all_but_last-below n = grind (arith, nat_tests)

module _ (file : FileGrammar) where
  left_out-below : (s : Step) (ss : List Step) → left_out_behind file s ss ≤ units file ss
  left_out-below Shift ss = omega arith
  left_out-below (Reduce p) ss = all_but_last-below (units file ss)

  units-cons : (s : Step) (ss : List Step) (b : Bool) → is_unit file s ≡ b → units file (s ∷ ss) ≡ cond b (1 + units file ss) 0
  units-cons s ss b e =
      length-prefix_len (λ u. is_unit file u) (s ∷ ss)
      ∙ (ap (λ c. cond c (1 + prefix_len (λ u. is_unit file u) ss) 0) e
      ∙ ap (λ n. cond b (1 + n) 0) (sym (length-prefix_len (λ u. is_unit file u) ss)))

  others-unit : (s : Step) (ss : List Step) → is_unit file s ≡ true → others file (s ∷ ss) ≡ others file ss
  others-unit s ss e = ap (λ c. cond (not c) (s ∷ others file ss) (others file ss)) e

  kept-others :
      (ss : List Step) (n : ℕ) (b : Bool) → n ≤ units file ss → others file (map (λ k. k.step) (kept_from file n b ss)) ≡ others file ss
  kept-others [] n b h = refl
  kept-others (s ∷ ss) zero b h =
      ap (λ us. cond (not (is_unit file s)) (s ∷ us) us) (kept-others ss (left_out_behind file s ss) false (left_out-below s ss))
  kept-others (s ∷ ss) (suc n) b h =
      let at : (c : Bool) → is_unit file s ≡ c → others file (map (λ k. k.step) (kept_from file n true ss)) ≡ others file (s ∷ ss) =
      λ c e. elim c as (λ d. is_unit file s ≡ d → others file (map (λ k. k.step) (kept_from file n true ss)) ≡ others file (s ∷ ss)) [
        | true ↦ λ is. kept-others ss n true (omega (arith, units-cons s ss true is)) ∙ sym (others-unit s ss is)
        | false ↦ λ is. absurd (omega (arith, units-cons s ss false is))
      ] e in
      at (is_unit file s) refl

pub others_kept : (file : FileGrammar) (ss : List Step) → others file (steps_kept file ss) ≡ others file ss
others_kept file ss = kept-others file ss 0 false (omega arith)
