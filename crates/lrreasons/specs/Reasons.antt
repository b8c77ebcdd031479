-- why there is a conflict
use Rattle.std.specs.Prelude.{IfSome, IsSome, ◌⊎◌}
use Rattle.lrspec.specs.grammars.Grammar.{Grammar}
use Rattle.lrspec.specs.merging.Graph.{Graph}
use Rattle.lrreasons.specs.declared.reasons.Reason.{Reason}
use Rattle.lrconflicts.specs.Entries.{entry_of}
use Rattle.lrgrammar.specs.Symbols.{number_of}
use Rattle.lrreasons.specs.Examples.{IsExampleOf}
use Rattle.lrreasons.specs.Ambiguities.{IsProofOf}

-- the grammar is ambiguous at the conflict, or it is told after what that is real
pub record IsReason (g : Grammar) (h : Graph) (r : Reason) : Type 0 where
  pub ambiguity : IfSome r.ambiguity (IsProofOf g h r.conflict)
  pub example : IfSome r.example (IsExampleOf g h (entry_of number_of r.conflict))
  pub some : IsSome r.ambiguity ⊎ IsSome r.example
