-- both sides are cut
use Rattle.lrdecided.specs.StoredNodes.{side_of, node_of}
use Rattle.lrdecided.proofs.TakenAndCut.{sides_cover}
use Rattle.lrdecided.proofs.taking.cut.Goals as goal

pub returns : goal.returns
returns c =
    sides_cover (node_of c.args.node.now) (side_of c.cut_side.new.side) (side_of c.cut_side-2.new.side) c.cut_side.ensures c.cut_side-2.ensures
