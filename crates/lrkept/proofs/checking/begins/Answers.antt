-- what is asked is listed
use Rattle.std.proofs.Common.{◌≡◌, length, arith}
use Rattle.std.proofs.lemmas.List.{length-map}
use Rattle.std.proofs.lemmas.Result.{IfOk-weaker}
use Rattle.lrconflicts.specs.StoredMoves.{move_of}
use Rattle.lrgrammar.specs.Symbols.{number_of}
use Rattle.lrexchange.specs.StoredPositions.{position_of, positions_of}
use Rattle.lrexchange.proofs.WonPositions.{begins_with_listed}
use Rattle.lrkept.proofs.checking.begins.Goals as goal

pub returns-in-Some : goal.returns-in-Some
returns-in-Some c =
    let listed = c.args.listing.now.positions in
    let n = c.len-bound.result in
    let all : n ≡ length (positions_of listed.items) = omega (arith, c.len-bound.ensures, listed.ok.0, length-map listed.items position_of) in
    IfOk-weaker c.are_listed.result _ _
    (λ b k t.
    begins_with_listed c.args.grm.now c.args.graph.now (positions_of listed.items) c.args.cell.0.0 c.args.cell.1.0 n (move_of number_of c.args.theirs)
    (move_of number_of c.args.ours) (positions_of c.in-Some.asked.items) (rw c.in-Some.is at c.in_ok-asked.ensures) (rw c.as_slice.ensures.value at (k t)) all)
    c.are_listed.ensures
