-- what was won before is won with what is added
use Rattle.std.proofs.Common.{◌≡◌, length, arith}
use Rattle.std.proofs.lemmas.List.{length-map}
use Rattle.lrexchange.specs.StoredPositions.{position_of, positions_of}
use Rattle.lrexchange.proofs.WonPositions.{first_won}
use Rattle.lrkept.proofs.keeping.is_certified.Goals as goal

pub are_won-requires-clause-first : goal.are_won-requires-clause-first
are_won-requires-clause-first c =
    let old = c.args.certificate.now.listing.positions in
    let all : c.len-first.result ≡ length (positions_of old.items) =
    omega (arith, c.len-first.ensures, old.ok.0, length-map old.items position_of) in
    first_won c.args.automaton.grm.now c.args.automaton.graph.now (positions_of old.items) (positions_of c.search.new.certificate.listing.positions.items)
    c.len-first.result c.requires.won c.in_ok-search.ensures all

pub returns-clause-won : goal.returns-clause-won
returns-clause-won c = c.in_ok-are_won.ensures c.if-not-branch.false

pub returns-clause-certified : goal.returns-clause-certified
returns-clause-certified c = λ t. (_, record { won = c.in_ok-are_won.ensures c.if-not-branch.false; begins = c.in_ok-begins.ensures t })
