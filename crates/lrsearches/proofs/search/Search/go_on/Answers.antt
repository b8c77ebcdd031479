-- a visit for each step
use Rattle.std.proofs.lemmas.List.{take_all}
use Rattle.lrsearches.specs.Trails.{next_of}
use Rattle.lrsearches.proofs.TrailsInTurn.{none_added, one_added}
use Rattle.lrsearches.proofs.search.Search.go_on.Goals as goal

pub loop-step-init : goal.loop-step-init
loop-step-init g c = record { known = c.requires.known; added = none_added _ _ }

pub loop-step-preserved : goal.loop-step-preserved
loop-step-preserved g c =
    record {
      known = c.in_ok-add.ensures.known;
      added =
          one_added (next_of g.T.IndexStorage.number c.args.from) c.args.steps.now c.loop-step.step-index c.step-item.result c.loop-step-test.true c.step-item.is
          c.loop-step.invariant.added c.in_ok-add.ensures.added;
    }

pub returns-clause-added : goal.returns-clause-added
returns-clause-added g c = rw (take_all c.loop-step.step-index c.args.steps.now c.loop-step-test.false) at c.loop-step.invariant.added
