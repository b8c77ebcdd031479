-- the tokens of those that are decided so far
use Rattle.std.proofs.Common.{◌≡◌, map, take}
use Rattle.std.specs.Prelude.{filter}
use Rattle.lrshown.specs.DecidedEntries.{is_decided}
use Rattle.lrreport.proofs.notes.decided.Given as goal

abbrev pub invariant-loop-evidence : goal.invariant-loop-evidence
invariant-loop-evidence l =
    l.tokens.items ≡ map (λ e. e.entry.token) (filter is_decided (take l.evidence-index l.meeting))
