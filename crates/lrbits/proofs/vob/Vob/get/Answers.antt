use Rattle.std.proofs.Common.{◌<◌, ◌/◌, ◌∙◌, arith}
use Rattle.std.proofs.lemmas.Grind.{get_or_default_zero}
use Rattle.lrbits.proofs.PackedBits.{view_length, bit_below}
use Rattle.lrbits.proofs.vob.Vob.get.Goals as goal
use Rattle.lrbits.proofs.vob.Vob.get.Goals.{After-self}

below : (c : After-self) → c.args.i < c.self.inside.len
below c = omega (arith, view_length c.self.inside.len c.self.inside.words.items c.args.self.now c.self.view_is)

pub index-requires : goal.index-requires
index-requires c = omega (arith, below c, c.self.invariant.count, c.self.inside.words.ok.0)

pub returns : goal.returns
returns c =
    let ws = c.self.inside.words.items in
    let b = below (goal.at.returns c).After-self in
    let w = c.index.ensures
    ∙ get_or_default_zero ws (c.args.i / 64) c.index.result.now (omega (arith, b, c.self.invariant.count)) in
    record { value = rw (← c.self.view_is, bit_below c.self.inside.len ws c.args.i b, ← w) c.has_bit.ensures }
