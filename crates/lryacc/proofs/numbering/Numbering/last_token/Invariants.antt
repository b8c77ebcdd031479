use Rattle.std.proofs.Common.{take}
use Rattle.lryacc.specs.BodyPrecedences.{IsLastToken}
use Rattle.lryacc.specs.Numbered.{names_of}
use Rattle.lryacc.proofs.numbering.Numbering.last_token.Given as goal

abbrev pub invariant-loop-part : goal.invariant-loop-part
invariant-loop-part l = IsLastToken (names_of l.self) (take l.part-index l.part-items) l.last
