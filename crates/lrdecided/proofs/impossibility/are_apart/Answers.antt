-- no token is shared
use Rattle.std.proofs.Common.{ℕ, Option, sym, subst}
use Rattle.lrdecided.specs.Beginnings.{HasMore}
use Rattle.lrdecided.proofs.ImpossibleNodes.{no_common_token, share_none}
use Rattle.lrdecided.proofs.impossibility.are_apart.Goals as goal

pub returns : goal.returns
returns c = λ t gr a b k e.
    no_common_token gr a _ _ (rw c.in-Some.is at b) (rw c.in-Some-other.is at k) (share_none _ _ c.intersects.result t c.intersects.ensures.shared)
    (subst (λ (o : Option ℕ). HasMore o) (sym e) (c.has_more.ensures c.if-not-has_more.false))
