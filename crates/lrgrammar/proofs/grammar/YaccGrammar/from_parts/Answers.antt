use Rattle.lrgrammar.proofs.grammar.YaccGrammar.from_parts.Goals as goal

pub returns-clause-free : goal.returns-clause-free
returns-clause-free g c = rw (← c.MAX.ensures) c.in_ok-refuse.ensures.free
