use Rattle.lrevidence.proofs.KeptMoves.{told_kept}
use Rattle.lrevidence.proofs.accepting.accepted_of.Goals as goal

-- of the graph that there is
pub returns-clause-told : goal.returns-clause-told
returns-clause-told c =
    let accepted = c.in_ok-accepted.ensures in
    record {
      exact = accepted.exact;
      but_at_errors = λ told. rw c.in-Some-true.is-0 (accepted.but_at_errors told);
    }

pub returns-clause-kept : goal.returns-clause-kept
returns-clause-kept c = told_kept _ _ _ _ _ c.in-Some-true.is-0 c.in_ok-accepted.ensures.kept

pub returns-clause-exact_pairs : goal.returns-clause-exact_pairs
returns-clause-exact_pairs c = λ told. c.in_ok-are_crowded.ensures c.if-branch.false

pub returns-clause-kept_pairs : goal.returns-clause-kept_pairs
returns-clause-kept_pairs c = λ some. c.in_ok-are_crowded.ensures c.if-branch.false
