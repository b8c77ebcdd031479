-- the row of the rule is read
use Rattle.lrsearches.proofs.UsesInTurn.{row_of_rule}
use Rattle.lrsearches.proofs.closes.closes.Goals as goal

pub closes_by_row-requires-clause-row : goal.closes_by_row-requires-clause-row
closes_by_row-requires-clause-row g c =
    let number = g.T.IndexStorage.number in
    row_of_rule number c.args.grm.now c.args.uses.now c.from.result (number c.prod_to_rule-rule.result.0) c.index-uses-from.result c.as_slice-row.result.now
    c.as_slice-row.ensures.value c.index-uses-from.is c.from.ensures c.requires.uses
