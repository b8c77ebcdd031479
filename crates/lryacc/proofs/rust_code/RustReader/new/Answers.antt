use Rattle.std.proofs.Common.{arith}
use Rattle.lryacc.specs.RustCode.IsRustCode.{nothing}
use Rattle.lryacc.proofs.rust_code.RustReader.new.Goals as goal

pub returns : goal.returns
returns c = λ text from. record { is = nothing; depth = omega arith }
