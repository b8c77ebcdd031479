use Rattle.std.proofs.Common.{◌≡◌, ◌<◌, length, ap, sym, subst, ◌∙◌}
use Rattle.lrspec.specs.tables.Machine.{Answer, run}
use Rattle.lrspec.specs.tables.Recognition.{AreNamed}
use Rattle.lrspec.specs.texts.Lines.{words}
use Rattle.lrspec.specs.texts.MachineLines.{tokens_of}
use Rattle.lrtable.specs.Labels.{AreLabels}
use Rattle.lrtable.specs.RunAnswers.{text_of}
use Rattle.lrtable.proofs.NamedTokens.{tokens_named}
use Rattle.lrtable.proofs.ReducedProductions.{of_images, reduces_by_productions}
use Rattle.lrtable.proofs.machine.lines.RunLinesLineAnswers.answer.Goals as goal

pub run-requires-clause-named : goal.run-requires-clause-named
run-requires-clause-named g c =
    let number = g.T.IndexStorage.number in
    let m = c.args.self.now.grm.now in
    let ws = words c.args.line.now in
    let facts = rw c.in-Ok.is at c.in_ok-tokens.ensures.tokens in
    let same : text_of number c.deref.result.now ≡ tokens_of m ws = ap (text_of number) c.deref.ensures.value ∙ facts.1 in
    subst (AreNamed m) (sym same) (tokens_named m ws)

pub push_run-requires : goal.push_run-requires
push_run-requires g c =
    let number = g.T.IndexStorage.number in
    let m = c.args.self.now.grm.now in
    let b = c.args.self.now.table.now in
    let n = c.args.self.now.steps in
    let ws = words c.args.line.now in
    let facts = rw c.in-Ok.is at c.in_ok-tokens.ensures.tokens in
    let text = text_of number c.deref.result.now in
    let same : text ≡ tokens_of m ws = ap (text_of number) c.deref.ensures.value ∙ facts.1 in
    let named : AreNamed m text = subst (AreNamed m) (sym same) (tokens_named m ws) in
    record {
      labels = subst (AreLabels m) (sym c.deref-in-Ok.ensures.value) c.requires.prepared;
      productions = of_images (λ p. p < length m.productions) (λ p. number p.0) c.in_ok-ran-in-Ok.ran.reductions.items (run m b n text).reductions
          (ap (λ (a : Answer). a.reductions) c.in_ok-ran-in-Ok.ensures.answer)
          (reduces_by_productions m b n text c.allocator-alloc.ensures.shape c.requires.can named);
    }
