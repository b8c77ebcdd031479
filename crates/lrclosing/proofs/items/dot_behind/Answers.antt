use Rattle.lrgrammar.specs.Symbols.{symbol_of}
use Rattle.lrclosing.proofs.items.dot_behind.Goals as goal

pub returns-in_default-clause-none : goal.returns-in_default-clause-none
returns-in_default-clause-none g c = c.in_default.ensures.none (symbol_of g.T.IndexStorage.number c.args.sym.now)
