use Rattle.std.proofs.Common.{arith}
use Rattle.lryacc.specs.Code.IsCode.{nothing}
use Rattle.lryacc.proofs.code.CodeReader.new.Goals as goal

pub returns : goal.returns
returns c = λ ending text from. record { is = nothing; opened = omega arith; closed = omega arith }
