use Rattle.std.proofs.Common.{arith}
use Rattle.lritems.proofs.GotoPlaces.{below_of_there, written_here, rule_apart, token_apart}
use Rattle.lritems.proofs.gotos.PlacesBySymbol.set.Goals as goal

pub index_mut-requires : goal.index_mut-requires
index_mut-requires g c =
    let below = below_of_there c.args.self.now.rules.items _ (rw c.in-Rule.is at c.requires) in
    omega (arith, below, c.from.ensures, c.args.self.now.rules.ok.0)

pub index_mut-requires-in-Token : goal.index_mut-requires-in-Token
index_mut-requires-in-Token g c =
    let below = below_of_there c.args.self.now.tokens.items _ (rw c.in-Token.is at c.requires) in
    omega (arith, below, c.from-in-Token.ensures, c.args.self.now.tokens.ok.0)

pub returns-in-Rule-clause-here : goal.returns-in-Rule-clause-here
returns-in-Rule-clause-here g c =
    let there = rw c.in-Rule.is at c.requires in
    rw (c.in-Rule.is, c.from.ensures) (written_here c.args.self.now.rules.items _ c.args.place there)

pub returns-in-Rule-clause-others : goal.returns-in-Rule-clause-others
returns-in-Rule-clause-others g c = rw c.in-Rule.is (rule_apart c.args.self.now.rules.items c.args.self.now.tokens.items c.from.result _ c.args.place c.from.ensures)

pub returns-in-Token-clause-here : goal.returns-in-Token-clause-here
returns-in-Token-clause-here g c =
    let there = rw c.in-Token.is at c.requires in
    rw (c.in-Token.is, c.from-in-Token.ensures) (written_here c.args.self.now.tokens.items _ c.args.place there)

pub returns-in-Token-clause-others : goal.returns-in-Token-clause-others
returns-in-Token-clause-others g c = rw c.in-Token.is
    (token_apart c.args.self.now.rules.items c.args.self.now.tokens.items c.from-in-Token.result _ c.args.place c.from-in-Token.ensures)
