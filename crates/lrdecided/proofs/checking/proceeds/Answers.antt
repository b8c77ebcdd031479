-- the moves are settled
use Rattle.std.specs.Prelude.{Contains}
use Rattle.std.proofs.lemmas.Result.{IfOk-weaker}
use Rattle.lrdecided.specs.Rules.{IsSettled}
use Rattle.lrdecided.specs.StoredNodes.{nodes_of}
use Rattle.lrdecided.proofs.GrowingLists.{proceeds_still}
use Rattle.lrdecided.proofs.checking.proceeds.Goals as goal

pub returns-in-Some : goal.returns-in-Some
returns-in-Some c =
    let listed = nodes_of c.args.listing.now.nodes.items in
    let ms = nodes_of c.in-Some.moves.items in
    let moves = rw c.in-Some.is at c.in_ok-moves.ensures in
    IfOk-weaker c.are_settled.result _ _
    (λ b k t. proceeds_still {Member = Contains ms} {Other = IsSettled c.args.grm.now listed} ((rw c.as_slice.ensures.value at k) t) moves) c.are_settled.ensures
