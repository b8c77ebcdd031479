-- a visit more, if its place was not come to
use Rattle.std.proofs.Common.{◌≡◌, refl, arith, length}
use Rattle.std.proofs.lemmas.List.{map-append, length-map}
use Rattle.lrsearches.specs.Trails.{visit_of, visits_of, turns_of}
use Rattle.lrsearches.proofs.TrailsInTurn.{known_place, known_more, adds_new, adds_none, turns_pushed}
use Rattle.lrsearches.proofs.search.Search.add.Goals as goal

pub returns-then-not-branch-clause-known : goal.returns-then-not-branch-clause-known
returns-then-not-branch-clause-known g c =
    let number = g.T.IndexStorage.number in
    let vs = visits_of number c.args.self.now.visits.items in
    let here =
    known_place number g.T.Ord.cmp g.met.T.IndexStorage.ordered _ _ c.in_ok-insert_place.ensures.needs c.in_ok-insert_place.ensures.order
    c.args.self.now.seen vs c.args.visit.place _ c.requires c.in_ok-insert_place.ensures.added c.if-not-branch.true in
    known_more number g.T.Ord.cmp g.met.T.IndexStorage.ordered _ _ c.in_ok-insert_place.ensures.needs c.in_ok-insert_place.ensures.order
    c.args.self.now.seen c.insert_place.new.seen vs vs c.args.visit.place c.in_ok-insert_place.ensures.keys (λ i u e. e) here c.requires

pub returns-then-not-branch-clause-added : goal.returns-then-not-branch-clause-added
returns-then-not-branch-clause-added g c =
    let number = g.T.IndexStorage.number in
    let vs = visits_of number c.args.self.now.visits.items in
    adds_none vs (turns_of _) (visit_of number c.args.visit)
    (known_place number g.T.Ord.cmp g.met.T.IndexStorage.ordered _ _ c.in_ok-insert_place.ensures.needs c.in_ok-insert_place.ensures.order
    c.args.self.now.seen vs c.args.visit.place _ c.requires c.in_ok-insert_place.ensures.added c.if-not-branch.true)

pub returns-clause-added : goal.returns-clause-added
returns-clause-added g c =
    let number = g.T.IndexStorage.number in
    let vs = visits_of number c.args.self.now.visits.items in
    let count : c.len.result ≡ length vs = omega (arith, c.len.ensures, c.args.self.now.visits.ok.0, length-map c.args.self.now.visits.items (visit_of number)) in
    rw (c.in_ok-push.ensures.items, map-append)
    (adds_new vs _ _ (visit_of number c.args.visit)
    (turns_pushed vs _ _ _ c.len.result count refl c.in_ok-push-2.ensures.permutation))

pub returns-clause-known : goal.returns-clause-known
returns-clause-known g c =
    let number = g.T.IndexStorage.number in
    let vs = visits_of number c.args.self.now.visits.items in
    let count : c.len.result ≡ length vs = omega (arith, c.len.ensures, c.args.self.now.visits.ok.0, length-map c.args.self.now.visits.items (visit_of number)) in
    rw (c.in_ok-push.ensures.items, map-append)
    (let adds = adds_new vs (turns_of _) _ (visit_of number c.args.visit) (turns_pushed vs _ _ _ c.len.result count refl c.in_ok-push-2.ensures.permutation) in
    known_more number g.T.Ord.cmp g.met.T.IndexStorage.ordered _ _ c.in_ok-insert_place.ensures.needs c.in_ok-insert_place.ensures.order
    c.args.self.now.seen c.insert_place.new.seen vs _ c.args.visit.place c.in_ok-insert_place.ensures.keys adds.kept adds.here c.requires)
