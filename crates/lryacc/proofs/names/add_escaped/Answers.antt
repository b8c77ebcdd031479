use Rattle.std.proofs.Common.{arith, true}
use Rattle.std.proofs.lemmas.Fmt.{hex_byte}
use Rattle.std.proofs.lemmas.Grind.{common_steps}
use Rattle.lryacc.proofs.names.add_escaped.Goals as goal

pub returns : goal.returns
returns c = grind (arith, common_steps, hex_byte true c.args.byte)
