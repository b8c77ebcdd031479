-- one more step
use Rattle.std.proofs.Common.{rules, [], ◌∷◌, get_or, take}
use Rattle.std.proofs.lemmas.List.{take_more}
use Rattle.lrshown.specs.declared.steps.Step.TheVariants.{Shift}
use Rattle.lrshown.specs.DrawnTrees.{with_steps}
use Rattle.lrshown.proofs.Rows.{with_steps-append}
use Rattle.lrshown.proofs.trees.Tree.add_all.Goals as goal

pub loop-step-preserved : goal.loop-step-preserved
loop-step-preserved c = λ ts h.
    let i = c.loop-step.step-index in
    let steps = c.args.steps.now in
    rw (take_more steps i Shift (search rules), with_steps-append c.args.file.now ts (take i steps) (get_or steps i Shift ∷ []))
    (c.in_ok-add_step.ensures (with_steps c.args.file.now ts (take i steps)) (c.loop-step.invariant ts h))
