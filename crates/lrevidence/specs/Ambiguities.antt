-- sentences with two trees, and where these part
use Rattle.std.specs.Prelude.{IfSome}
use Rattle.lrspec.specs.grammars.Grammar.{Grammar}
use Rattle.lrspec.specs.merging.Graph.{Graph}
use Rattle.lrshown.specs.declared.evidence.Evidence.{Evidence}
pub use Rattle.lrentries.specs.Ambiguities.{PartsAt}
pub use Rattle.lrshown.specs.Ambiguities.{HasTwoTrees, IsProved, IsShown, AreShown, shown_dot}

-- those of a text that is told of an entry part in its state, where its token comes
abbrev pub PartsAtEntry : Grammar → Graph → Evidence → Type 0
PartsAtEntry g h e = IfSome e.ambiguity (λ a. PartsAt g h e.entry.state e.entry.token a.value)
