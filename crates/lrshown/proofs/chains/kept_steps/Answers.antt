-- one more step
use Rattle.std.proofs.Common.{arith, ◌++◌, ◌∷◌, ◌<◌, ◌≤◌, drop, length, get_or, sym, ap, ◌∙◌, add-one, map}
use Rattle.std.proofs.lemmas.List.{append-nil, drop_all}
use Rattle.std.proofs.Math.Seq.{drop-cons}
use Rattle.lrshown.specs.declared.steps.Step.TheVariants.{Shift}
use Rattle.lrshown.specs.Chains.{kept_by, others}
use Rattle.lrshown.proofs.KeptSteps.{others_kept}
use Rattle.lrshown.proofs.chains.kept_steps.Goals as goal

pub loop-place-preserved : goal.loop-place-preserved
loop-place-preserved c =
    let file = c.args.file.now in
    let ss = c.args.steps.now in
    let i = c.loop-place.place in
    let list = c.loop-place.list.items in
    let cutting = c.loop-place.cutting in
    let step = get_or ss i Shift in
    let within : i < length ss = omega (arith, c.loop-place-test.true) in
    c.loop-place.invariant
    ∙ (ap (λ l. list ++ kept_by file cutting l) (drop-cons ss i Shift within ∙ ap (λ k. step ∷ drop k ss) (sym (add-one i)))
    ∙ (ap (λ l. list ++ kept_by file cutting (step ∷ l)) (sym c.steps_behind.ensures)
    ∙ (c.in_ok-cutting.ensures ∙ ap (λ l. c.add_kept.new.list.items ++ kept_by file c.in_ok-cutting.cutting l) c.steps_behind.ensures)))

pub returns-clause-kept : goal.returns-clause-kept
returns-clause-kept c =
    let file = c.args.file.now in
    let ss = c.args.steps.now in
    let i = c.loop-place.place in
    let list = c.loop-place.list.items in
    let cutting = c.loop-place.cutting in
    let all : length ss ≤ i = omega (arith, c.loop-place-test.false) in
    sym (append-nil list) ∙ (ap (λ l. list ++ kept_by file cutting l) (sym (drop_all i ss all)) ∙ sym c.loop-place.invariant)

pub returns-clause-others : goal.returns-clause-others
returns-clause-others c =
    let file = c.args.file.now in
    ap (λ l. others file (map (λ k. k.step) l)) (returns-clause-kept c) ∙ others_kept file c.args.steps.now
