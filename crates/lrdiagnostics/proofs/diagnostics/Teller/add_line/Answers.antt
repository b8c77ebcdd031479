use Rattle.lrdiagnostics.proofs.AddedPieces.{more_both, more_of}
use Rattle.lrdiagnostics.proofs.diagnostics.Teller.add_line.Goals as goal

pub returns : goal.returns
returns c =
    more_both (more_of c.add_times.ensures)
    (more_both (more_of c.write.ensures) (more_both (more_of c.add.ensures) (more_of c.add_char.ensures)))
