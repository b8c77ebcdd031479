use Rattle.std.proofs.Common.{sym}
use Rattle.lrbits.proofs.PackedBits.{view_length}
use Rattle.lrbits.proofs.vob.Vob.len.Goals as goal

pub returns : goal.returns
returns c = record { number = sym (view_length c.self.inside.len c.self.inside.words.items c.args.self.now c.self.view_is) }
