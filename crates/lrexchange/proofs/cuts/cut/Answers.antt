-- the rule behind the front
use Rattle.lrgrammar.specs.Symbols.{symbol_of, number_of}
use Rattle.lrexchange.specs.StoredPositions.{symbols_of}
use Rattle.lrexchange.proofs.CutStacks.{front_with_one, cut_to}
use Rattle.lrexchange.proofs.cuts.cut.Goals as goal

pub returns : goal.returns
returns c =
    let n = c.in-Some.front in
    let stack = c.args.stack.items in
    cut_to c.args.grm.now c.args.item.0.0 c.args.item.1.0 c.args.least (symbols_of stack) n c.prod_to_rule.result.0
    (symbols_of c.push.new.self.items) (rw (c.as_slice.ensures.value, c.before_dot.ensures) at c.in-Some.ensures.ends) c.if-front-least.false c.prod_to_rule.ensures.rule
    (front_with_one (symbol_of number_of) stack c.truncate.new.self.items c.push.new.self.items _ n c.truncate.ensures.items c.in_ok-push.ensures.items)
