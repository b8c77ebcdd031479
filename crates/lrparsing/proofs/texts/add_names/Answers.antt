use Rattle.std.proofs.Common.{◌<◌, ◌≤◌, ℕ, List, length, subst, arith, Bor}
use Rattle.lrwriter.specs.Texts.{Adds}
use Rattle.lrwriter.proofs.Pieces.{adds_both}
use Rattle.lrparsing.proofs.JoinedTexts.{begun, more_names, all_names}
use Rattle.lrparsing.proofs.texts.add_names.Goals as goal

pub loop-name-init : goal.loop-name-init
loop-name-init c =
    subst (Adds c.args.text.now c.add_shown.new.text)
    (begun (λ (n : Bor (List ℕ)). n.now) c.args.between.now c.args.names.now c.in-Some.first.now c.in-Some.others.now c.in-Some.ensures.cases.0)
    c.add_shown.ensures

pub loop-name-preserved : goal.loop-name-preserved
loop-name-preserved c =
    let i = c.loop-name.name-index in
    let inside : i < length c.in-Some.others.now = omega (arith, c.loop-name-test.true) in
    subst (Adds c.args.text.now c.add_behind.new.text)
    (more_names (λ (n : Bor (List ℕ)). n.now) c.args.between.now c.args.names.now c.in-Some.first.now c.in-Some.others.now c.in-Some.ensures.cases.0 i
    _ inside)
    (adds_both c.loop-name.invariant c.add_behind.ensures)

pub returns : goal.returns
returns c =
    let i = c.loop-name.name-index in
    let past : length c.in-Some.others.now ≤ i = omega (arith, c.loop-name-test.false) in
    subst (Adds c.args.text.now c.loop-name.text)
    (all_names (λ (n : Bor (List ℕ)). n.now) c.args.between.now c.args.names.now c.in-Some.first.now c.in-Some.others.now c.in-Some.ensures.cases.0 i past)
    c.loop-name.invariant
