use Rattle.std.proofs.Common.{◌≡◌, [], length}
use Rattle.std.specs.Prelude.{All}
use Rattle.lrgrammar.proofs.grammar.lists.empty_lists.Given as goal

abbrev pub invariant-loop-rule : goal.invariant-loop-rule
invariant-loop-rule g l = record { count : length l.lists.items ≡ l._rule; empty : All (λ xs. xs.items ≡ []) l.lists.items }
