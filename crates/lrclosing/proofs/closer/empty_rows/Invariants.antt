use Rattle.std.proofs.Common.{◌≡◌, ℕ, false, Some, length}
use Rattle.std.specs.Prelude.{slice_get}
use Rattle.lrclosing.specs.declared.closer.Row.{Row}
use Rattle.lrclosing.specs.Leads.{IsRow}
use Rattle.lrclosing.proofs.closer.empty_rows.Given as goal

abbrev pub invariant-loop : goal.invariant-loop
invariant-loop g l = record {
  len : length l.rows.items ≡ l.counter;
  each : (a : ℕ) (r : Row) → slice_get l.rows.items a ≡ Some r → IsRow l.grm r;
  clear : (a : ℕ) (r : Row) → slice_get l.rows.items a ≡ Some r → r.is_reached ≡ false;
}
