-- those so far
use Rattle.std.proofs.Common.{◌≡◌, take}
use Rattle.lrtable.specs.RunAnswers.{text_of}
use Rattle.lrgrammar.specs.Symbols.{number_of}
use Rattle.lrentries.proofs.numbers.numbers_of.Given as goal

abbrev pub invariant-loop-token : goal.invariant-loop-token
invariant-loop-token l = l.numbers.items ≡ text_of number_of (take l.token-index l.tokens)
