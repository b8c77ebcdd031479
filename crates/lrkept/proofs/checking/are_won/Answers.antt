-- a turn for each place
use Rattle.std.proofs.Common.{◌≤◌, length, arith}
use Rattle.std.proofs.lemmas.List.{length-map}
use Rattle.lrexchange.specs.StoredPositions.{position_of, positions_of}
use Rattle.lrexchange.proofs.WonPositions.{next_won, end_won}
use Rattle.lrkept.proofs.checking.are_won.Goals as goal

pub loop-place-init : goal.loop-place-init
loop-place-init c = c.requires.first

pub loop-place-preserved : goal.loop-place-preserved
loop-place-preserved c =
    next_won c.args.grm.now c.args.graph.now (positions_of c.args.certificate.now.listing.positions.items) c.loop-place.place
    c.loop-place.invariant (c.in_ok-is_won.ensures c.if-not-branch.false)

pub returns : goal.returns
returns c = λ t.
    let listed = c.args.certificate.now.listing.positions in
    let all : length (positions_of listed.items) ≤ c.loop-place.place =
    omega (arith, c.loop-place-test.false, c.len-count.ensures, listed.ok.0, length-map listed.items position_of) in
    end_won c.args.grm.now c.args.graph.now (positions_of listed.items) c.loop-place.place all c.loop-place.invariant
