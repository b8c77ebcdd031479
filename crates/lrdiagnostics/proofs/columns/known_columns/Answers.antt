use Rattle.std.proofs.Common.{rules}
use Rattle.lrdiagnostics.proofs.KnownColumns.{at_first}
use Rattle.lrdiagnostics.proofs.columns.known_columns.Goals as goal

pub loop-here-init : goal.loop-here-init
loop-here-init c = record { here = at_first c.args.bytes.now; all = search rules }
