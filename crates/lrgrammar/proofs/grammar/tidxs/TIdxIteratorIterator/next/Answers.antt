use Rattle.std.proofs.Common.{length, ap, arith, rules}
use Rattle.lrgrammar.proofs.Ranges.{range_turn, range_left}
use Rattle.lrgrammar.proofs.grammar.tidxs.TIdxIteratorIterator.next.Goals as goal

pub returns-then-self-clause-steps : goal.returns-then-self-clause-steps
returns-then-self-clause-steps g c = rw (← c.self.view_is) (range_turn c.self.inside.at c.self.inside.end _ (search rules) (omega arith))

pub returns-then-self-clause-goes : goal.returns-then-self-clause-goes
returns-then-self-clause-goes g c = record {
  on = λ f. (tt, tt, omega (arith, ap length c.self.view_is, range_left c.self.inside.at c.self.inside.end (omega arith)));
  keeps = tt;
  rests = λ f. tt;
}
