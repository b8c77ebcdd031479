use Rattle.std.proofs.Common.{◌∙◌}
use Rattle.lrreasons.proofs.ReasonsInTurn.{all_more}
use Rattle.lrevidence.specs.Searches.{IsKnownBy}
use Rattle.lrevidence.proofs.EvidenceInTurn.{one_more}
use Rattle.lrevidence.proofs.evidence.evidence_of_all.Goals as goal

pub known_of-requires : goal.known_of-requires
known_of-requires c = rw c.loop-entry.invariant.same c.requires

pub loop-entry-preserved : goal.loop-entry-preserved
loop-entry-preserved c =
    let known = c.in_ok-evidence.evidence in
    let told = c.in_ok-evidence.ensures in
    let same = told.same ∙ c.loop-entry.invariant.same in
    let old = c.loop-entry.list.items in
    let new = c.push.new.self.items in record {
      entries = one_more (λ e. e.entry) old new known c.args.entries.now c.loop-entry.entry-index _
          c.loop-entry-test.true c.loop-entry.invariant.entries c.in_ok-push.ensures.items told.entry;
      known = all_more (IsKnownBy c.args.searches.now) old new known c.loop-entry.invariant.known c.in_ok-push.ensures.items (rw same at told.known);
      same = same;
    }
