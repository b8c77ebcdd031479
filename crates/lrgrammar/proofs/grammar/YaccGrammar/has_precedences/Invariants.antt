use Rattle.std.proofs.Common.{◌<◌, ℕ, Option, get_or}
use Rattle.std.specs.Prelude.{IsSome}
use Rattle.lrtext.specs.declared.parts.Precedence.{Precedence}
use Rattle.lrgrammar.proofs.grammar.YaccGrammar.has_precedences.Given as goal

abbrev pub invariant-loop-precedence : goal.invariant-loop-precedence
invariant-loop-precedence g l =
    (k : ℕ) (d : Option Precedence) → k < l.precedence-index → IsSome (get_or l.precedence-items k d) → ⊥
