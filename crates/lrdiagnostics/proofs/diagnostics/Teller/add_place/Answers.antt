use Rattle.lrwriter.proofs.Pieces.{adds_both}
use Rattle.lrdiagnostics.proofs.AddedPieces.{place_alone}
use Rattle.lrdiagnostics.proofs.diagnostics.Teller.add_place.Goals as goal

pub returns : goal.returns
unfolding lib.Utf8.encode
returns c =
    let position = c.position-position in
    place_alone {name = c.args.self.source.now.name.now} c.args.blanks position.ensures.line position.ensures.column
    (adds_both c.add_times.ensures c.write.ensures)
