use Rattle.std.proofs.Common.{◌++◌, ap, ◌∙◌, subst, append-nil}
use Rattle.lrspec.specs.tables.Recognition.{AreNamed}
use Rattle.lrspec.specs.texts.Lines.{words}
use Rattle.lrspec.specs.texts.MachineLines.{tokens_of}
use Rattle.lrtable.specs.RunAnswers.{text_of}
use Rattle.lrtable.proofs.NamedTokens.{tokens_named}
use Rattle.lrtable.proofs.machine.answers.line_tokens.Goals as goal

pub returns-clause-named : goal.returns-clause-named
returns-clause-named g c =
    let m = c.args.grm.now in
    let text = text_of g.T.IndexStorage.number c.loop-word.tokens.items in
    let same = c.loop-word.invariant.tokens ∙ (ap (λ ws. text ++ tokens_of m ws) c.in-None.ensures.steps.0 ∙ append-nil text) in
    subst (AreNamed m) same (tokens_named m (words c.args.line.now))
