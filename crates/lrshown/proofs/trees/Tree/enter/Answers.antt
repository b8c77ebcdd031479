-- one list is longer
use Rattle.std.proofs.Common.{rules}
use Rattle.lrshown.proofs.Rows.{entered_at}
use Rattle.lrshown.proofs.trees.Tree.enter.Goals as goal

pub returns-in_ok-push-clause-entered : goal.returns-in_ok-push-clause-entered
returns-in_ok-push-clause-entered c = λ front behind e k.
    entered_at (λ v. v.items) _ front behind c.args.first c.args.production c.in-Some.list.now c.push.new.self e k (search rules) (search rules) c.in_ok-push.ensures.items
