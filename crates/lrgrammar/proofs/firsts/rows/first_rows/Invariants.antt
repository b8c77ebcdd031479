use Rattle.lrgrammar.specs.FirstRows.{AreRows, HoldBegins, unset_rows}
use Rattle.lrgrammar.proofs.firsts.rows.first_rows.Given as goal

abbrev pub invariant-loop : goal.invariant-loop
invariant-loop g l = record { shape : AreRows l.grm l.rows.items; sound : HoldBegins l.grm l.rows.items }

abbrev pub decreases-loop : goal.decreases-loop
decreases-loop g l = unset_rows l.rows.items
