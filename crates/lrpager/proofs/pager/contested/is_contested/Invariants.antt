use Rattle.std.proofs.Common.{◌≡◌, length}
use Rattle.lrspec.specs.grammars.Grammar.{token_count}
use Rattle.lrpager.proofs.pager.contested.is_contested.Given as goal

abbrev pub invariant-loop-key : goal.invariant-loop-key
invariant-loop-key g l = length l.tokens ≡ token_count l.grm
