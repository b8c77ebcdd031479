-- those so far
use Rattle.std.proofs.Common.{◌≡◌, take}
use Rattle.lrtable.specs.RunAnswers.{text_of}
use Rattle.lrgrammar.specs.Symbols.{number_of}
use Rattle.lrentries.proofs.numbers.tokens_of.Given as goal

abbrev pub invariant-loop-number : goal.invariant-loop-number
invariant-loop-number l = text_of number_of l.tokens.items ≡ take l.number-index l.numbers
