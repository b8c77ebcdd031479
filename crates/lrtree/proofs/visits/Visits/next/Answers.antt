use Rattle.std.proofs.Common.{◌∷◌, sym, ap, ◌∙◌}
use Rattle.lrtree.specs.Visits as math
use Rattle.lrtree.specs.StoredVisits.{next_trees}
use Rattle.lrtree.proofs.StoredVisitSteps.{left_with, node_entered}
use Rattle.lrtree.proofs.visits.Visits.next.Goals as goal

pub returns-in_ok-push-in-Node-clause-next : goal.returns-in_ok-push-in-Node-clause-next
returns-in_ok-push-in-Node-clause-next g c =
    let number = g.T.IndexStorage.number in
    let v = c.self.inside in
    let p = c.in-Node.pidx in
    let opened = c.push.new.self.items in
    let first = c.in-Some.ensures ∙ ap (λ t. t ∷ c.in-Some.behind.now) c.in-Node.is in
    sym c.self.view_is
    ∙ node_entered number (next_trees v.root v.trees.now) v.«open».items opened (record { pidx = p; behind = c.in-Some.behind }) c.in-Node.children first c.in_ok-push-in-Node.ensures.items
    ∙ ap (λ l. math.Enter (number p.0) ∷ left_with number l opened) (sym c.as_slice-self-inside.ensures.value)
