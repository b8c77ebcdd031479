use Rattle.std.proofs.lemmas.List.Sorted.{answers_always, ranks_by}
use Rattle.std.proofs.Common.{rules}
use Rattle.std.specs.Ordering.{is_lt}
use Rattle.lrreport.specs.declared.causes.Meeting.{Meeting}
use Rattle.lrreport.specs.contracts.causes.KindOrd.TheImpl.Laws.{total-law}
use Rattle.lrreport.proofs.KindsInOrder.{kind_cmp, stand_together}
use Rattle.lrreport.proofs.causes.put_in_order.Goals as goal

pub returns-clause-together : goal.returns-clause-together
returns-clause-together c = λ grouped.
    let order = ranks_by total-law (λ (m : Meeting). m.kind) in
    stand_together total-law _ (c.in_ok-sort_by.ensures.sorted (λ m n. is_lt (kind_cmp m.kind n.kind)) order (answers_always _ _ _ (λ f a r q h. search rules)))
