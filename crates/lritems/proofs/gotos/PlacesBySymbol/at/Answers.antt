use Rattle.std.proofs.Common.{◌<◌, length, refl, sym, arith}
use Rattle.std.proofs.lemmas.Option.{slice_get_read}
use Rattle.lritems.proofs.GotoPlaces.{below_of_there}
use Rattle.lritems.proofs.gotos.PlacesBySymbol.at.Goals as goal

pub index-requires : goal.index-requires
index-requires g c =
    let below = below_of_there c.args.self.now.rules.items _ (rw c.in-Rule.is at c.requires) in
    omega (arith, below, c.from.ensures, c.args.self.now.rules.ok.0)

pub index-requires-in-Token : goal.index-requires-in-Token
index-requires-in-Token g c =
    let below = below_of_there c.args.self.now.tokens.items _ (rw c.in-Token.is at c.requires) in
    omega (arith, below, c.from-in-Token.ensures, c.args.self.now.tokens.ok.0)

pub returns-in-Rule : goal.returns-in-Rule
returns-in-Rule g c =
    let rules = c.args.self.now.rules.items in
    let below : c.from.result < length rules = rw c.from.ensures (below_of_there rules _ (rw c.in-Rule.is at c.requires)) in
    rw (c.in-Rule.is, ← c.from.ensures) (sym (slice_get_read rules (length rules) c.from.result c.index.result.now refl below c.index.ensures))

pub returns-in-Token : goal.returns-in-Token
returns-in-Token g c =
    let tokens = c.args.self.now.tokens.items in
    let below : c.from-in-Token.result < length tokens = rw c.from-in-Token.ensures (below_of_there tokens _ (rw c.in-Token.is at c.requires)) in
    rw (c.in-Token.is, ← c.from-in-Token.ensures) (sym (slice_get_read tokens (length tokens) c.from-in-Token.result c.index-in-Token.result.now refl below c.index-in-Token.ensures))
