-- a visit for each place
use Rattle.std.proofs.lemmas.List.{take_all}
use Rattle.lrsearches.specs.Trails.{begin_of}
use Rattle.lrsearches.proofs.TrailsInTurn.{none_added, one_added}
use Rattle.lrsearches.proofs.search.Search.begin.Goals as goal

pub loop-place-init : goal.loop-place-init
loop-place-init g c = record { known = c.requires.known; added = none_added _ _ }

pub loop-place-preserved : goal.loop-place-preserved
loop-place-preserved g c =
    record {
      known = c.in_ok-add.ensures.known;
      added =
          one_added (begin_of g.T.IndexStorage.number) c.args.places.now c.loop-place.place-index c.place-item.result c.loop-place-test.true c.place-item.is
          c.loop-place.invariant.added c.in_ok-add.ensures.added;
    }

pub returns-clause-added : goal.returns-clause-added
returns-clause-added g c = rw (take_all c.loop-place.place-index c.args.places.now c.loop-place-test.false) at c.loop-place.invariant.added
