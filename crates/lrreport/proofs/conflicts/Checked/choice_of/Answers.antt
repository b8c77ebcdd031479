use Rattle.std.proofs.Common.{◌≡◌, ◌∙◌, false, sym}
use Rattle.lryacc.specs.Parsers.{splits}
use Rattle.lrreport.proofs.ItemsBefore.{common}
use Rattle.lrreport.proofs.conflicts.Checked.choice_of.Goals as goal

pub returns : goal.returns
returns c =
    let split : splits c.args.self.now.told.parser.now ≡ false = sym c.splits.ensures ∙ c.if-splits.false in
    let b = c.args.self.now.found.now.table in
    let first = c.in_ok-first.first.now in
    let others = c.in_ok-first.others.now in
    let picked = common b first others c.is_common-is_one.result c.choice-choice.result c.choice-choice.ensures c.is_common-is_one.ensures in
    rw (split, c.in_ok-first.ensures.cases.0) (c.then_some.ensures ∙ picked)
