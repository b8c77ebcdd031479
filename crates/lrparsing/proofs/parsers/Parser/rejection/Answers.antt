use Rattle.std.proofs.Common.{◌≡◌, ◌<◌, ℕ, ◌-◌, length, take, ap, ◌∙◌, sym, subst, arith}
use Rattle.std.proofs.lemmas.List.{take-map}
use Rattle.std.proofs.lemmas.List.Elements.{All-take}
use Rattle.lrgrammar.specs.declared.idx.TIdx.{TIdx}
use Rattle.lrspec.specs.grammars.Grammar.{end_token}
use Rattle.lrspec.specs.tables.Recognition as recognition
use Rattle.lrspec.specs.tables.Recognition.{AreNamed}
use Rattle.lrparsing.specs.Answers.{refused_at, shifted_on, taken_on, text_of_line}
use Rattle.lrparsing.specs.Expected.{AreShiftedBehind}
use Rattle.lrparsing.specs.Machines.{numbers, run_by}
use Rattle.lrparsing.proofs.Beginnings.{all_begin}
use Rattle.lrparsing.proofs.parsers.Parser.rejection.Goals as goal

pub tokens_behind-requires : goal.tokens_behind-requires
tokens_behind-requires c =
    let g = c.args.self.now.machine.grammar in
    let n = c.in_ok-used.used in
    let text = c.args.text.now in
    let is : numbers c.beginning-before.result.now ≡ take n (numbers text) =
    ap numbers c.beginning-before.ensures ∙ sym (take-map (λ (t : TIdx ℕ). t.0) n text) in
    subst (AreNamed g) (sym is) (All-take (λ t. t < end_token g) n (numbers text) c.requires.named)

pub returns : goal.returns
returns c =
    let p = c.args.self.now in
    let ts = numbers c.args.tokens.now in
    let n = c.in_ok-used.used in
    let text = c.args.text.now in
    let g = p.machine.grammar in
    let used : n ≡ shifted_on p ts = c.in_ok-used.ensures.count ∙ ap (λ t. recognition.shifted (run_by p.machine t)) c.requires.text_is in
    let size : c.len.result ≡ length p.front.items = omega (arith, c.len.ensures, p.front.ok.0) in
    let taken : c.saturating_sub.result ≡ shifted_on p ts - length p.front.items =
    c.saturating_sub.ensures ∙ ap (λ k. k - c.len.result) used ∙ ap (λ k. shifted_on p ts - k) size in
    let before : numbers c.beginning-before.result.now ≡ taken_on p ts =
    ap numbers c.beginning-before.ensures ∙ sym (take-map (λ (t : TIdx ℕ). t.0) n text) ∙ ap (λ k. take k (numbers text)) used
    ∙ ap (take (shifted_on p ts)) c.requires.text_is in
    let found = c.in_ok-tokens_behind.field-0.items in
    let expected : AreShiftedBehind p.machine (taken_on p ts) (end_token g) found =
    subst (λ w. AreShiftedBehind p.machine w (end_token g) found) before c.in_ok-tokens_behind.ensures in
    let named : AreNamed g (taken_on p ts) =
    All-take (λ t. t < end_token g) (shifted_on p ts) (text_of_line p ts) (subst (AreNamed g) c.requires.text_is c.requires.named) in
    record {
      rejects = c.requires.rejects;
      refused = c.refused_at.ensures ∙ ap (refused_at ts) taken;
      expected = expected;
      begin = λ has. all_begin p.machine (taken_on p ts) (c.in_ok-used.ensures.begins has) named found expected.below expected.are;
    }
