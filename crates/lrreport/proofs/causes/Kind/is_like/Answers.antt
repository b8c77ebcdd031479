use Rattle.std.proofs.Common.{sym, ap, ◌∙◌}
use Rattle.std.specs.Ordering.{is_eq}
use Rattle.lrreport.specs.contracts.causes.KindOrd.TheImpl.Laws.{total-law, matches_eq-law}
use Rattle.lrreport.proofs.KindsInOrder.{alike_equal, equal_alike, is_equal}
use Rattle.lrreport.proofs.causes.Kind.is_like.Goals as goal

pub returns-clause-like : goal.returns-clause-like
returns-clause-like c = λ is.
    let one = c.args.self.now in
    let other = c.args.other.now in
    equal_alike one other (is_equal _ (sym (matches_eq-law one other) ∙ sym c.eq.ensures ∙ is))

pub returns-clause-unlike : goal.returns-clause-unlike
returns-clause-unlike c = λ like.
    let one = c.args.self.now in
    let other = c.args.other.now in
    c.eq.ensures ∙ matches_eq-law one other ∙ ap is_eq (alike_equal total-law one other like)
