use Rattle.std.proofs.Common.{subst}
use Rattle.lryacc.specs.declared.contents.Contents.{Contents}
use Rattle.lryacc.specs.Numbered.{HaveRules}
use Rattle.lryacc.proofs.Numbered.{adds_again, have_rules-kept}
use Rattle.lryacc.proofs.numbering.Numbering.add_symbols.Goals as goal

pub returns-clause-have : goal.returns-clause-have
returns-clause-have c =
    let last = c.add_bare_rules.new.self in
    let others = adds_again c.in_ok-add_tokens.ensures (adds_again c.in_ok-add_tokens_below.ensures (adds_again c.in_ok-add_without_level.ensures c.in_ok-add_rules.ensures)) in
    let before = adds_again c.in_ok-add_first_tokens.ensures.added others in
    have_rules-kept c.args.self.now.contents.now.statements.items last c.add_marks.new.self c.in_ok-add_marks.ensures.added
    (subst (λ (contents : Contents). HaveRules contents.statements.items last) before.contents c.in_ok-add_bare_rules.ensures.have)

pub returns-clause-added : goal.returns-clause-added
returns-clause-added c =
    let others = adds_again c.in_ok-add_tokens.ensures (adds_again c.in_ok-add_tokens_below.ensures (adds_again c.in_ok-add_without_level.ensures c.in_ok-add_rules.ensures)) in
    let last = adds_again c.in_ok-add_bare_rules.ensures.added c.in_ok-add_marks.ensures.added in
    adds_again c.in_ok-add_first_tokens.ensures.added (adds_again others last)

pub returns-clause-end : goal.returns-clause-end
returns-clause-end c = λ numbered.
    let others = adds_again c.in_ok-add_tokens.ensures (adds_again c.in_ok-add_tokens_below.ensures (adds_again c.in_ok-add_without_level.ensures c.in_ok-add_rules.ensures)) in
    let last = adds_again c.in_ok-add_bare_rules.ensures.added c.in_ok-add_marks.ensures.added in
    last.end (others.end (c.in_ok-add_first_tokens.ensures.end numbered))

pub returns-clause-marks : goal.returns-clause-marks
returns-clause-marks c = c.in_ok-add_marks.ensures.marks
