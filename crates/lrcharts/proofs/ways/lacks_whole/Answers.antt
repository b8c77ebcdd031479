-- by what it looks at
use Rattle.std.proofs.Common.{◌≡◌, ℕ, ◌+◌, ◌-◌, length, map, sym, ◌∙◌, subst, arith}
use Rattle.std.proofs.lemmas.List.{length-map}
use Rattle.lrgrammar.specs.declared.idx.StIdx.{StIdx}
use Rattle.lrgrammar.specs.declared.idx.TIdx.{TIdx}
use Rattle.lrspec.specs.grammars.Grammar.{Rule}
use Rattle.lrtable.specs.RunAnswers.{text_of}
use Rattle.lrgrammar.specs.Symbols.{number_of}
use Rattle.lrcharts.specs.Charts.{HasSpan, HasTokens}
use Rattle.lrcharts.proofs.ways.lacks_whole.Goals as goal

pub returns : goal.returns
returns c = λ is.
    let items = c.args.machine.now.stack.items in
    let text = text_of number_of c.args.left.now in
    let states : length (map (λ (s : StIdx ℕ). s.0) items) ≡ c.len-states.result =
    omega (arith, length-map items (λ (s : StIdx ℕ). s.0), c.len-states.ensures) in
    let tokens : length text ≡ length c.args.left.now = length-map c.args.left.now (λ (t : TIdx ℕ). number_of t.0) in
    let end : length (map (λ (s : StIdx ℕ). s.0) items) - 1 + length text ≡ c.len-states.result - 1 + length c.args.left.now = omega (arith, states, tokens) in
    record {
      some = λ none. c.if-states-eq0.false (sym states ∙ none);
      within = omega (arith, states, c.if-states-chart.false);
      top = omega (arith, states, c.if-chart-states.false);
      stack = rw c.as_slice.ensures.value at (c.has_states.ensures c.if-not-has_states.false);
      tokens = subst (λ n. HasTokens c.args.chart.now (n - 1) text) (sym states) (c.has_tokens.ensures is);
      lacks = λ shape. subst (λ n. ¬ (HasSpan c.args.chart.now (Rule shape.start.0) 0 n)) (sym end)
          (c.lacks_start.ensures c.if-not-lacks_start.false shape);
    }
