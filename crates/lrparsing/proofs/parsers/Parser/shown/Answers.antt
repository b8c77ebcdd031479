use Rattle.std.proofs.Common.{◌≡◌, [], length, drop, ap, ◌∙◌, sym, subst, arith}
use Rattle.std.proofs.lemmas.Result.{IfOk-weaker}
use Rattle.lrconflicts.specs.Moves.{moves_of}
use Rattle.lrshown.specs.ShownTrees.{IsWhole}
use Rattle.lrparsing.specs.Answers.{IsSentenceTold}
use Rattle.lrparsing.specs.Machines.{numbers}
use Rattle.lrparsing.proofs.parsers.Parser.shown.Goals as goal

pub returns : goal.returns
returns c =
    let p = c.args.self.now in
    let steps = c.in_ok-steps.steps.items in
    let before = length p.front.items in
    let size : c.len.result ≡ before = omega (arith, c.len.ensures, p.front.ok.0) in
    let is : c.steps_behind-behind.result.now ≡ drop before steps = c.steps_behind-behind.ensures ∙ ap (drop c.len.result) c.as_slice.ensures.value ∙ ap (λ n. drop n steps) size in
    IfOk-weaker c.whole.result (IsWhole p.file [] c.steps_behind-behind.result.now)
    (IsSentenceTold p.machine.grammar p.file (numbers c.args.text.now) before)
    (λ t whole. record {
      sentence = c.requires.0;
      steps = steps;
      moves = c.in_ok-steps.ensures ∙ ap moves_of (sym c.requires.1);
      drawn = subst (λ l. IsWhole p.file [] l t) is whole;
    })
    c.whole.ensures
