use Rattle.std.proofs.Common.{refl}
use Rattle.lrevidence.proofs.EvidenceInTurn.{all_proved, all_part, all_lost, all_decided}
use Rattle.lrevidence.proofs.FoundLosses.{are_lost, stop_so, are_apart, are_doomed}
use Rattle.lrevidence.proofs.evidence.evidence_for.Goals as goal

pub evidence_of_all-requires : goal.evidence_of_all-requires
evidence_of_all-requires c =
    let made = c.in_ok-searches.ensures in
    record {
      listed = rw (made.grammar, made.graph, made.found) (rw c.in-Some-false.is-0 at c.requires.listed);
      contested = rw (made.grammar, made.graph) (rw c.in-Some-false.is-0 at c.requires.contested);
      grammar = rw (made.decided, made.grammar) refl;
      graph = rw (made.in_graph, made.graph) refl;
    }

pub returns-clause-proved : goal.returns-clause-proved
returns-clause-proved c = rw c.in_ok-searches.ensures.grammar at (all_proved c.in_ok-searches.searches c.in_ok-list.list.items c.in_ok-list.ensures.known)

pub returns-clause-parts : goal.returns-clause-parts
returns-clause-parts c =
    rw c.in-Some-false.is-0 (rw (c.in_ok-searches.ensures.grammar, c.in_ok-searches.ensures.graph) at (all_part c.in_ok-searches.searches c.in_ok-list.list.items c.in_ok-list.ensures.known))

pub returns-clause-lost : goal.returns-clause-lost
returns-clause-lost c = are_lost _ _ (rw c.in_ok-searches.ensures.lost at (all_lost c.in_ok-searches.searches c.in_ok-list.list.items c.in_ok-list.ensures.known))

pub returns-clause-stops : goal.returns-clause-stops
returns-clause-stops c = rw c.in-Some-false.is-0 (stop_so _ _ (rw c.in_ok-searches.ensures.lost at (all_lost c.in_ok-searches.searches c.in_ok-list.list.items c.in_ok-list.ensures.known)))

pub returns-clause-pairs : goal.returns-clause-pairs
returns-clause-pairs c = are_apart _ _ (rw c.in_ok-searches.ensures.lost at (all_lost c.in_ok-searches.searches c.in_ok-list.list.items c.in_ok-list.ensures.known))

pub returns-clause-doomed : goal.returns-clause-doomed
returns-clause-doomed c = are_doomed _ _ (rw c.in_ok-searches.ensures.lost at (all_lost c.in_ok-searches.searches c.in_ok-list.list.items c.in_ok-list.ensures.known))

pub returns-clause-decided : goal.returns-clause-decided
returns-clause-decided c =
    rw c.in-Some-false.is-0 (rw (c.in_ok-searches.ensures.decided, c.in_ok-searches.ensures.in_graph) at (all_decided c.in_ok-searches.searches c.in_ok-list.list.items c.in_ok-list.ensures.known))
