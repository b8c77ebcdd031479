use Rattle.std.proofs.Common.{length, ap, arith, ◌∙◌}
use Rattle.lryacc.proofs.AllBodiesRead.{bar_file, bar_on, begins_inside, reads_bar, reads_body, reads_over}
use Rattle.lryacc.proofs.BodiesRead.{begins_next}
use Rattle.lryacc.proofs.reader.Reader.alternatives.Goals as goal

pub loop-turn-preserved : goal.loop-turn-preserved
loop-turn-preserved c =
    let so_far = c.loop-turn.invariant in
    let added = c.in_ok-alternative.ensures.added in
    let taken = c.in-Some.ensures.taken in
    let file = bar_file c.alternative.new.self c.bar.new.self c.in-Some.bar taken in
    record {
      text = file.text ∙ (added.text ∙ so_far.text);
      lexemes = file.lexemes ∙ (added.lexemes ∙ so_far.lexemes);
      dialect = file.dialect ∙ (added.dialect ∙ so_far.dialect);
      faults = omega (arith, so_far.faults, c.alternative.ensures.faults, file.faults);
      on = omega (arith, so_far.on, added.on, bar_on c.alternative.new.self c.bar.new.self c.in-Some.bar taken);
      declared = c.in-Some.ensures.said ∙ (c.in_ok-alternative.ensures.said ∙ so_far.declared);
      begins = begins_next c.args.rule c.in-Some.bar so_far.begins added taken;
      read = λ read.
          reads_bar c.alternative.new.self c.bar.new.self c.in-Some.bar taken
          (reads_body c.loop-turn.self c.alternative.new.self c.args.rule so_far.begins added (so_far.read read));
    }

pub returns-in-None-clause-read : goal.returns-in-None-clause-read
returns-in-None-clause-read c =
    let so_far = c.loop-turn.invariant in
    let added = c.in_ok-alternative.ensures.added in
    let over = c.in-None.ensures.taken in
    record {
      text = over.file.text ∙ (added.text ∙ so_far.text);
      lexemes = over.file.lexemes ∙ (added.lexemes ∙ so_far.lexemes);
      dialect = over.file.dialect ∙ (added.dialect ∙ so_far.dialect);
      on = omega (arith, so_far.on, added.on, over.on);
      read = λ read.
          reads_over c.alternative.new.self c.bar.new.self over
          (reads_body c.loop-turn.self c.alternative.new.self c.args.rule so_far.begins added (so_far.read read));
    }

pub returns-clause-read : goal.returns-clause-read
returns-clause-read c =
    let so_far = c.loop-turn.invariant in
    absurd
    (omega (arith, begins_inside c.loop-turn.self c.args.rule so_far.begins, so_far.on, c.loop-turn-test.false, c.requires.behind.next, ap (λ xs. length xs) so_far.lexemes))

pub returns-in-None-clause-said : goal.returns-in-None-clause-said
returns-in-None-clause-said c =
    c.in-None.ensures.said ∙ (c.in_ok-alternative.ensures.said ∙ c.loop-turn.invariant.declared)

pub returns-clause-said : goal.returns-clause-said
returns-clause-said c =
    let so_far = c.loop-turn.invariant in
    absurd
    (omega (arith, begins_inside c.loop-turn.self c.args.rule so_far.begins, so_far.on, c.loop-turn-test.false, c.requires.behind.next, ap (λ xs. length xs) so_far.lexemes))
