-- so many are left
use Rattle.std.proofs.Common.{ap, ◌∙◌}
use Rattle.lrgrammar.specs.Symbols.{symbol_of, number_of}
use Rattle.lrdecided.specs.StoredNodes.{symbols_of, side_of}
use Rattle.lrdecided.proofs.TakenAndCut.{cut_so, take_mapped}
use Rattle.lrdecided.proofs.taking.cut_side.Goals as goal

pub returns-then-len-most : goal.returns-then-len-most
returns-then-len-most c =
    cut_so (side_of c.args.side.now) _ c.args.most (ap symbols_of c.truncate.ensures.items ∙ take_mapped (symbol_of number_of) c.args.most c.args.side.now.symbols.items)
