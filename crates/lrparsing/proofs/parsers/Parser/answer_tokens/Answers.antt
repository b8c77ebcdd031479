use Rattle.lrparsing.proofs.parsers.Parser.answer_tokens.Goals as goal

pub shown-shown-requires : goal.shown-shown-requires
shown-shown-requires c = let h = rw c.in-Tree.is at c.in_ok-tree.ensures.tree in (h.0, h.1)
