use Rattle.lrdiagnostics.proofs.AddedPieces.{more_both, more_of}
use Rattle.lrdiagnostics.proofs.diagnostics.Teller.add_mark.Goals as goal
use Rattle.lrdiagnostics.proofs.diagnostics.Teller.add_mark.Goals.{then-is_empty, else-is_empty}

pub returns : goal.returns
returns c =
    let marked = more_both c.begin_mark.ensures (more_both c.begin.ensures (more_of c.add_times.ensures)) in
    elim c.if-is_empty.branch [
      | then-is_empty w ↦ rw w.text-is (more_both marked w.end.ensures)
      | else-is_empty w ↦
          rw w.text-is
          (more_both marked
          (more_both (more_of w.add_char.ensures)
          (more_both (more_of w.add.ensures) (more_both w.end-else-is_empty.ensures (more_of w.add_char-else-is_empty.ensures)))))
    ]
