use Rattle.std.proofs.Common.{sym, ap, ◌∙◌, subst}
use Rattle.std.specs.Prelude.{IsTrue}
use Rattle.std.proofs.lemmas.List.{take_all}
use Rattle.lrspec.specs.texts.Names.{has_no_repeats}
use Rattle.lrtext.specs.StoredLevels.{leveled_names}
use Rattle.lrtext.proofs.LevelFacts.{one_more_name, repeated_here}
use Rattle.lrtext.proofs.meaning.precedences.distinct.Goals as goal

-- this name was there
pub returns-then-has-clause-err : goal.returns-then-has-clause-err
returns-then-has-clause-err c =
    repeated_here (λ l. l.name.now) c.args.leveled.now c.loop-one.one-index _ c.loop-one.numbers _ c.loop-one-test.true c.loop-one.invariant.numbered c.loop-one.invariant.once (sym c.if-has.ensures) c.in_ok-name.ensures.ok

-- one more name that is new
pub loop-one-preserved : goal.loop-one-preserved
loop-one-preserved c =
    let more = one_more_name (λ l. l.name.now) c.args.leveled.now c.loop-one.one-index _ c.loop-one.numbers c.add.new.self c.loop-one-test.true c.loop-one.invariant.numbered c.loop-one.invariant.once (sym c.if-has.ensures) c.in_ok-add.ensures in
    record { numbered = more.0; once = more.1 }

-- all names were gone along
pub returns-clause-numbered : goal.returns-clause-numbered
returns-clause-numbered c = c.loop-one.invariant.numbered ∙ ap leveled_names (take_all c.loop-one.one-index c.args.leveled.now c.loop-one-test.false)

pub returns-clause-once : goal.returns-clause-once
returns-clause-once c =
    subst (λ ls. IsTrue (has_no_repeats (leveled_names ls))) (take_all c.loop-one.one-index c.args.leveled.now c.loop-one-test.false) c.loop-one.invariant.once
