-- what the searches of a file share
use Rattle.std.specs.Prelude.{◌≡◌}
use Rattle.lrspec.specs.merging.Graph.{Graph}
use Rattle.lrspec.specs.tables.Conflicts.{AreReductionsContested}
use Rattle.lrfindings.specs.declared.findings.Findings.{Findings}
use Rattle.lrevidence.specs.declared.searches.Searches.{Searches}
use Rattle.lrevidence.specs.Entries.{AreListedIn}
use Rattle.lrentries.specs.Losses.{searched}
use Rattle.lrshown.specs.declared.evidence.Evidence.{Evidence}
use Rattle.lrevidence.specs.Ambiguities.{IsProved, PartsAtEntry}
use Rattle.lrevidence.specs.DecidedEntries.{IsDecidedOf}
use Rattle.lrevidence.specs.Losses.{IsFoundAtEntry}

-- all are of one grammar and one graph, whose table lists the conflicts that were found
pub record AreOfOne (s : Searches) : Type 0 where
  pub listed : AreListedIn s.reasons.grammar s.reasons.graph s.found.now.conflicts.items
  pub contested : AreReductionsContested s.reasons.grammar s.reasons.graph
  pub grammar : s.decisions.grammar ≡ s.reasons.grammar
  pub graph : s.decisions.graph ≡ s.reasons.graph

-- what is told of an entry is so: sentences with two trees have them, and these part there; what the parser rejects was found to be
-- lost there; and the entry is decided
pub record IsKnownBy (s : Searches) (e : Evidence) : Type 0 where
  pub proved : IsProved s.reasons.grammar e
  pub parts : PartsAtEntry s.reasons.grammar s.reasons.graph e
  pub lost : IsFoundAtEntry s.losses e
  pub decided : IsDecidedOf s.decisions.grammar s.decisions.graph e

-- all are of what was found, and of the graph
pub record AreFor (f : Findings) (h : Graph) (s : Searches) : Type 0 where
  pub found : s.found.now ≡ f
  pub grammar : s.reasons.grammar ≡ f.grm
  pub graph : s.reasons.graph ≡ h
  pub lost : s.losses ≡ searched f h
  pub decided : s.decisions.grammar ≡ f.grm
  pub in_graph : s.decisions.graph ≡ h
