use Rattle.std.proofs.Common.{◌≡◌, length, map, ap, ◌∙◌, arith}
use Rattle.std.specs.List.{range_with_len}
use Rattle.lrtree.specs.Pieces.{pieces_of}
use Rattle.lrtree.proofs.StoredPieces.{one_more}
use Rattle.lrtree.proofs.pieces.Pieces.new.Goals as goal

pub loop-prod-preserved : goal.loop-prod-preserved
loop-prod-preserved g c =
    let at = (rw c.unwrap.ensures at c.from_usize.ensures).1 in
    one_more c.args.grm.now c.loop-prod.prod (g.T.IndexStorage.number c.unwrap.result) c.in_ok-node_pieces.field-0 c.loop-prod.nodes.items
    c.push.new.self.items c.loop-prod.invariant c.in_ok-push.ensures.items c.in_ok-node_pieces.ensures at

pub returns : goal.returns
returns g c =
    let all : c.loop-prod.prod ≡ length c.args.grm.now.productions = omega (arith, c.from-prod-end.ensures, c.prods_len.ensures.value) in
    c.loop-prod.invariant ∙ ap (λ n. map (pieces_of c.args.grm.now) (range_with_len 0 n)) all
