use Rattle.std.proofs.Common.{◌<◌, [], ◌++◌, length, map, get_or, ap, subst, ◌∙◌, sym}
use Rattle.std.specs.Prelude.{codes}
use Rattle.std.specs.String.{string_bytes}
use Rattle.lrtable.proofs.MadeLabels.{label_of}
use Rattle.lrtable.proofs.PushedReductions.{turn, all_turns}
use Rattle.lrtable.proofs.machine.answers.push_reductions.Goals as goal

pub loop-pidx-preserved : goal.loop-pidx-preserved
loop-pidx-preserved g c =
    let number = g.T.IndexStorage.number in
    let labels = c.args.labels.now in
    let p = c.pidx-item.result in
    let there = subst (λ p. number p.0 < length labels) (sym c.pidx-item.is) (c.requires c.loop-pidx.pidx-index p c.loop-pidx-test.true) in
    let own = label_of labels c.from.result (number p.0) c.index-labels-from.result c.as_str.result.now there c.from.ensures c.index-labels-from.is c.as_str.ensures.value in
    turn (λ p. number p.0) (λ p. codes " " ++ get_or (map string_bytes labels) p []) c.args.reductions.now c.loop-pidx.pidx-index
    p c.args.out.now.items c.loop-pidx.out.items c.push_reduction.new.out.items c.loop-pidx-test.true c.pidx-item.is c.loop-pidx.invariant
    (c.in_ok-push_reduction.ensures ∙ ap (λ t. c.loop-pidx.out.items ++ (codes " " ++ t)) own)

pub returns : goal.returns
returns g c =
    all_turns (λ p. g.T.IndexStorage.number p.0) (λ p. codes " " ++ get_or (map string_bytes c.args.labels.now) p []) c.args.reductions.now
    c.loop-pidx.pidx-index c.args.out.now.items c.loop-pidx.out.items c.loop-pidx-test.false c.loop-pidx.invariant
