use Rattle.std.proofs.Common.{◌+◌, take}
use Rattle.lrreport.proofs.OneConflict.{are_one_kind, next_unlike, of_first}
use Rattle.lrreport.proofs.causes.first_cause.Goals as goal

pub cause_of-requires-clause-alike : goal.cause_of-requires-clause-alike
cause_of-requires-clause-alike c =
    rw c.split_at-2.ensures.front
    (of_first c.args.meetings.now c.index-meetings-0.result c.alike-count.result c.requires.some c.index-meetings-0.is
    (rw c.split_at.ensures.back at c.alike-count.ensures.alike))

pub returns-clause-kind : goal.returns-clause-kind
returns-clause-kind c =
    let ms = c.args.meetings.now in
    let first = c.index-meetings-0.result in
    let n = c.alike-count.result in
    are_one_kind first (take (n + 1) ms) (of_first ms first n c.requires.some c.index-meetings-0.is (rw c.split_at.ensures.back at c.alike-count.ensures.alike))

pub returns-clause-last : goal.returns-clause-last
returns-clause-last c = λ grouped inside.
    let ms = c.args.meetings.now in
    let first = c.index-meetings-0.result in
    let n = c.alike-count.result in
    let each = of_first ms first n c.requires.some c.index-meetings-0.is (rw c.split_at.ensures.back at c.alike-count.ensures.alike) in
    next_unlike ms first n each (rw c.split_at.ensures.back at (c.alike-count.ensures.last grouped)) inside
