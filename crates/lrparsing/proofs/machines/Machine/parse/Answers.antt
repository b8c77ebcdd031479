use Rattle.std.proofs.Common.{ℕ, IfOk, subst}
use Rattle.lrtree.specs.ParsedTexts.{HasTheTree}
use Rattle.lrparsing.specs.Machines.{Tabled, numbers, run_by}
use Rattle.lrparsing.proofs.machines.Machine.parse.Goals as goal

pub returns-clause-tree : goal.returns-clause-tree
returns-clause-tree c =
    let text = numbers c.args.text.now in
    subst (λ (m : Tabled). IfOk c.parse.result (HasTheTree {T = ℕ} (λ n. n) m.grammar text (run_by m text).reductions)) c.self.view_is c.parse.ensures.tree
