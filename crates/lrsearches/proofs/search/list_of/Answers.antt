-- a turn for each visit
use Rattle.std.proofs.Common.{refl, arith}
use Rattle.std.proofs.lemmas.List.{length-map}
use Rattle.lrgrammar.specs.Symbols.{symbol_of}
use Rattle.lrsearches.specs.Trails as trail
use Rattle.lrsearches.specs.Trails.{visit_of, visits_of}
use Rattle.lrsearches.proofs.TrailsInTurn.{visit_at, from_earlier, walk_next}
use Rattle.lrsearches.proofs.search.list_of.Goals as goal

pub loop-from-init : goal.loop-from-init
loop-from-init g c = record { walk = rw c.new-list.ensures.items trail.IsWalk.begin; within = c.requires.within }

pub loop-from-preserved : goal.loop-from-preserved
loop-from-preserved g c =
    let number = g.T.IndexStorage.number in
    let vs = visits_of number c.args.visits.now in
    let v = visit_of number c.index-visits-at.result in
    let here = visit_at (visit_of number) c.args.visits.now c.loop-from.at c.index-visits-at.result c.loop-from.invariant.within c.index-visits-at.is in
    let less = from_earlier vs c.loop-from.at c.in-Some.from v c.requires.earlier here c.in-Some.is in
    record {
      walk =
          rw c.in_ok-push_symbol.ensures
          (walk_next (symbol_of number) vs c.args.visit c.loop-from.at c.in-Some.from v c.index-visits-at.result.symbol c.loop-from.list.items
          c.loop-from.invariant.walk here c.in-Some.is refl);
      within = omega (arith, less.1, length-map c.args.visits.now (visit_of number));
    }

pub loop-from-smaller : goal.loop-from-smaller
loop-from-smaller g c =
    let number = g.T.IndexStorage.number in
    let vs = visits_of number c.args.visits.now in
    let v = visit_of number c.index-visits-at.result in
    let here = visit_at (visit_of number) c.args.visits.now c.loop-from.at c.index-visits-at.result c.loop-from.invariant.within c.index-visits-at.is in
    (from_earlier vs c.loop-from.at c.in-Some.from v c.requires.earlier here c.in-Some.is).0

pub returns-in_default : goal.returns-in_default
returns-in_default g c =
    let number = g.T.IndexStorage.number in
    let here = visit_at (visit_of number) c.args.visits.now c.loop-from.at c.index-visits-at.result c.loop-from.invariant.within c.index-visits-at.is in
    (c.loop-from.at, visit_of number c.index-visits-at.result, here, c.in_default.is, c.loop-from.invariant.walk)
