use Rattle.std.proofs.Common.{◌∙◌, ap, sym}
use Rattle.lrspec.specs.merging.Graph.{IsGraphOf}
use Rattle.lrverdicts.specs.Verdicts.{counts_of}
use Rattle.lrfindings.specs.Findings.{FindNothing}
use Rattle.lrevidence.specs.Ambiguities.{IsProved, PartsAtEntry}
use Rattle.lrevidence.specs.Losses.{IsLostAtEntry}
use Rattle.lrevidence.specs.DecidedEntries.{IsToldDecided}
use Rattle.lrreport.proofs.KeptGraph.{weaker_without}
use Rattle.lrreport.proofs.KnownBy.{known_each, known_entries, known_matched, known_unlost}
use Rattle.lrreport.proofs.known.known_of.Goals as goal

pub evidence_for-requires-clause-graph : goal.evidence_for-requires-clause-graph
evidence_for-requires-clause-graph c =
    let found = c.args.found.now in
    rw c.as_slice-entries.ensures.value
    (weaker_without found.graph (FindNothing found) _ (IsGraphOf found.grm) (λ none. none.left) c.requires.graph)

pub returns-clause-left : goal.returns-clause-left
returns-clause-left c =
    rw c.in_ok-evidence.ensures
    (known_entries c.args.read.parser.now c.in_ok-all.all.items ∙ c.in_ok-all.ensures.entries ∙ c.as_slice-entries.ensures.value)

pub returns-clause-proved : goal.returns-clause-proved
returns-clause-proved c =
    rw c.in_ok-evidence.ensures
    (known_each (IsProved c.args.found.now.grm) (λ e is. is) c.args.read.parser.now c.in_ok-all.all.items c.in_ok-all.ensures.proved)

pub returns-clause-parts : goal.returns-clause-parts
returns-clause-parts c =
    let found = c.args.found.now in
    rw c.in_ok-evidence.ensures
    (known_matched found.graph (PartsAtEntry found.grm) (λ h e is. is) c.args.read.parser.now c.in_ok-all.all.items c.in_ok-all.ensures.parts)

pub returns-clause-lost : goal.returns-clause-lost
returns-clause-lost c =
    let found = c.args.found.now in
    rw c.in_ok-evidence.ensures
    (known_each (IsLostAtEntry found.grm found.table) (λ e is. tt) c.args.read.parser.now c.in_ok-all.all.items c.in_ok-all.ensures.lost)

pub returns-clause-entries : goal.returns-clause-entries
returns-clause-entries c =
    let found = c.args.found.now in
    rw c.in_ok-evidence.ensures
    (known_each (IsToldDecided found.grm found.graph) (λ e is. is) c.args.read.parser.now c.in_ok-all.all.items c.in_ok-all.ensures.decided)

pub returns-clause-unlost : goal.returns-clause-unlost
returns-clause-unlost c = λ is. rw c.in_ok-evidence.ensures (known_unlost c.args.read.parser.now c.in_ok-all.all.items is)

pub returns-clause-counts : goal.returns-clause-counts
returns-clause-counts c =
    rw c.in_ok-evidence.ensures
    (c.of.ensures ∙ ap counts_of (sym (known_entries c.args.read.parser.now c.in_ok-all.all.items ∙ c.in_ok-all.ensures.entries)))
