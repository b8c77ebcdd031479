use Rattle.std.proofs.Common.{◌≤◌, length, drop, refl, sym, arith}
use Rattle.std.proofs.lemmas.List.{take-append-drop, length-map}
use Rattle.lrtable.specs.RunAnswers.{text_of}
use Rattle.lrambiguity.proofs.DeadEnds.{tree_read, all_before}
use Rattle.lrambiguity.proofs.ReplaySteps.{last_tree_alone, last_tree_there}
use Rattle.lrambiguity.proofs.replays.Replay.into_tree.Goals as goal

pub returns-then-not-is_whole-clause-none : goal.returns-then-not-is_whole-clause-none
returns-then-not-is_whole-clause-none g c = λ ms made t a.
    let number = g.T.IndexStorage.number in
    let used = c.args.self.used in
    let text = text_of number c.args.text.now in
    let one = tree_read (drop used text) t made (sym (take-append-drop used text)) a in
    let all : length c.args.text.now ≤ used = omega (arith, all_before text used one.1, length-map c.args.text.now (λ x. number x.0)) in
    let whole = c.is_whole.ensures.1 (all, one.0) in
    let no = c.if-not-is_whole.true in
    cc

pub returns-clause-tree : goal.returns-clause-tree
returns-clause-tree g c =
    let whole = c.if-not-is_whole.ensures.0 refl in
    last_tree_alone g.T.IndexStorage.number c.args.grm.now c.args.text.now c.args.self c.in_order.ensures.shape whole.1
    c.pop.new.self.items c.pop.result whole.0 c.pop.ensures.items

pub returns-clause-none : goal.returns-clause-none
returns-clause-none g c =
    let whole = c.if-not-is_whole.ensures.0 refl in
    last_tree_there g.T.IndexStorage.number c.args.grm.now c.args.text.now c.args.self c.in_order.ensures.shape whole.1
    c.pop.result (λ some. c.pop.ensures.variant.1 (omega (arith, some, c.args.self.trees.ok.0)))
