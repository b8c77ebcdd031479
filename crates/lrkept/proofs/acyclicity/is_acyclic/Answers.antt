-- by ranks of pairs
use Rattle.std.proofs.Common.{sym, subst, ◌∙◌}
use Rattle.lrkept.specs.Pairs.{CanBeRanked}
use Rattle.lrkept.proofs.AlonePairs.{pairs_from_rules, acyclic_by, ranked_by}
use Rattle.lrkept.proofs.ExactTables.{exact, exact_but_at_errors}
use Rattle.lrkept.proofs.NodeBounds.{derives_no_self}
use Rattle.lrkept.proofs.acyclicity.is_acyclic.Goals as goal

pub can_be_ranked-requires : goal.can_be_ranked-requires
can_be_ranked-requires c =
    rw c.as_slice.ensures.value
    (pairs_from_rules c.args.grm.now c.in_ok-pairs.pairs.items c.to_usize.result c.rules_len.ensures.shape c.in_ok-pairs.ensures
    (c.to_usize.ensures.number ∙ c.rules_len.ensures.value))

pub returns-clause-acyclic : goal.returns-clause-acyclic
returns-clause-acyclic c = λ yes.
    acyclic_by c.args.grm.now c.in_ok-pairs.pairs.items c.in_ok-pairs.ensures (subst CanBeRanked c.as_slice.ensures.value (c.in_ok-is.ensures.ranked yes))

pub returns-clause-no_cycle : goal.returns-clause-no_cycle
returns-clause-no_cycle c = λ yes.
    derives_no_self
    (acyclic_by c.args.grm.now c.in_ok-pairs.pairs.items c.in_ok-pairs.ensures (subst CanBeRanked c.as_slice.ensures.value (c.in_ok-is.ensures.ranked yes)))

pub returns-clause-cyclic : goal.returns-clause-cyclic
returns-clause-cyclic c = λ no k.
    c.in_ok-is.ensures.not_ranked no (subst CanBeRanked (sym c.as_slice.ensures.value) (ranked_by c.args.grm.now c.in_ok-pairs.pairs.items c.in_ok-pairs.ensures k))

pub returns-clause-kept : goal.returns-clause-kept
returns-clause-kept c = λ yes h b graph table.
    exact c.args.grm.now h b c.rules_len.ensures.shape graph table
    (acyclic_by c.args.grm.now c.in_ok-pairs.pairs.items c.in_ok-pairs.ensures (subst CanBeRanked c.as_slice.ensures.value (c.in_ok-is.ensures.ranked yes)))

pub returns-clause-kept_but_at_errors : goal.returns-clause-kept_but_at_errors
returns-clause-kept_but_at_errors c = λ yes h b graph table.
    exact_but_at_errors c.args.grm.now h b c.rules_len.ensures.shape graph table
    (acyclic_by c.args.grm.now c.in_ok-pairs.pairs.items c.in_ok-pairs.ensures (subst CanBeRanked c.as_slice.ensures.value (c.in_ok-is.ensures.ranked yes)))
