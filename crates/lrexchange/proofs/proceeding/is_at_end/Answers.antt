-- no symbol is behind the dot
use Rattle.lrexchange.proofs.AskedPositions.{none_behind}
use Rattle.lrspec.specs.grammars.Grammar.{rest}
use Rattle.lrexchange.proofs.proceeding.is_at_end.Goals as goal

pub returns-in-None : goal.returns-in-None
returns-in-None c = λ t.
    none_behind (rest c.args.grm.now c.args.item.0.0 c.args.item.1.0) (λ x y e. c.in-None.ensures.none x (y, e))
