use Rattle.lrdiagnostics.proofs.AddedPieces.{more_both}
use Rattle.lrdiagnostics.proofs.diagnostics.Teller.line_of.Goals as goal
use Rattle.lrdiagnostics.proofs.diagnostics.Teller.line_of.Goals.{in-Some+else-shows, in_default}

pub returns : goal.returns
returns c =
    let line = c.in_ok-line.ensures in
    elim c.match-last.branch [
      | in-Some+else-shows w ↦ more_both (rw w.text-is w.end_row.ensures) line
      | in_default w ↦ rw (← w.text-is) line
    ]
