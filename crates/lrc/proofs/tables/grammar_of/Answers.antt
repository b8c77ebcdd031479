use Rattle.lrc.proofs.tables.grammar_of.Goals as goal

pub returns-in-Grammar : goal.returns-in-Grammar
returns-in-Grammar c = record {
  expected = c.in-Grammar.field-1;
  parser = c.in-Grammar.field-2;
  warnings = c.in-Grammar.field-3;
  read = rw c.in-Grammar.is at c.in_ok-file.ensures.bodies;
}
