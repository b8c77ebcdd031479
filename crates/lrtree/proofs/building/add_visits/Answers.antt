use Rattle.std.proofs.Common.{◌≡◌, [], ◌∷◌, Some, subst}
use Rattle.lrspec.specs.grammars.Trees.{Bare, And}
use Rattle.lrtree.specs.Walks.{tree_visits_back}
use Rattle.lrtree.specs.Built.{with_visits}
use Rattle.lrtree.specs.StoredTrees.{forests_of}
use Rattle.lrtree.specs.StoredVisits.{visit_of}
use Rattle.lrtree.proofs.BuiltTrees.{building_starts, first_fits, others_fit, built_at_end}
use Rattle.lrtree.proofs.StoredSteps.{first_of, none_left}
use Rattle.lrtree.proofs.building.add_visits.Goals as goal

pub loop-walk-init : goal.loop-walk-init
loop-walk-init g c = λ t k. (tree_visits_back t, c.in_ok-walk.ensures t k, building_starts (forests_of g.T.IndexStorage.number c.args.rows.now.items) t c.requires.alone)

pub next-requires : goal.next-requires
next-requires g c =
    let (t, k) = c.requires.tree in
    let (es, remains, built) = c.loop-walk.invariant t k in
    (es, remains)

pub add_visit-requires : goal.add_visit-requires
add_visit-requires g c =
    let number = g.T.IndexStorage.number in
    let rows = forests_of number c.loop-walk.rows.items in
    let (t, k) = c.requires.tree in
    let (es, remains, built) = c.loop-walk.invariant t k in
    let (rest, is, then) = first_of number c.in_ok-visit.field-0 c.in-Some.visit es _ c.in-Some.is (c.in_ok-visit.ensures.visit es remains) in
    first_fits rows (visit_of number c.in-Some.visit) rest (And t Bare ∷ []) (subst (λ l. with_visits rows l ≡ Some (And t Bare ∷ [])) is built)

pub loop-walk-preserved : goal.loop-walk-preserved
loop-walk-preserved g c = λ t k.
    let number = g.T.IndexStorage.number in
    let rows = forests_of number c.loop-walk.rows.items in
    let (es, remains, built) = c.loop-walk.invariant t k in
    let (rest, is, then) = first_of number c.in_ok-visit.field-0 c.in-Some.visit es _ c.in-Some.is (c.in_ok-visit.ensures.visit es remains) in
    (rest, then, others_fit rows (forests_of number c.add_visit.new.rows.items) (visit_of number c.in-Some.visit) rest (Some (And t Bare ∷ [])) c.in_ok-add_visit.ensures (subst (λ l. with_visits rows l ≡ Some (And t Bare ∷ [])) is built))

pub returns : goal.returns
returns g c = λ t k.
    let number = g.T.IndexStorage.number in
    let (es, remains, built) = c.loop-walk.invariant t k in
    built_at_end (forests_of number c.loop-walk.rows.items) es (And t Bare ∷ []) (none_left number c.in_ok-visit.field-0 es _ c.in_default.not-Some (c.in_ok-visit.ensures.visit es remains)) built
