-- the tokens so far are leaves
use Rattle.std.proofs.Common.{◌≡◌, ◌+◌, map, take}
use Rattle.lrspec.specs.grammars.Grammar.{Token}
use Rattle.lrtable.specs.RunAnswers.{text_of}
use Rattle.lrgrammar.specs.Symbols.{number_of}
use Rattle.lrcharts.specs.Charts.{Laid}
use Rattle.lrcharts.proofs.closedness.has_tokens.Given as goal

abbrev pub invariant-loop-token : goal.invariant-loop-token
invariant-loop-token l = record {
  place : l.place ≡ l.fn.from + l.token-index;
  laid : Laid l.chart (map Token (text_of number_of (take l.token-index l.tokens))) l.fn.from l.place;
}
