use Rattle.std.proofs.Common.{◌*◌, ◌+◌, ◌-◌, ◌≤◌, ℕ, List, length}
use Rattle.lrspec.specs.grammars.Grammar.{item_count, token_count}
use Rattle.lrplacing.specs.Construction.{Draft}
use Rattle.lrpager.specs.Choices.{ClosesAll}
use Rattle.lrpager.specs.Closing.{AreToolsFor}
use Rattle.lrplacing.specs.Counts.{unclosed, weight}
use Rattle.lrplacing.specs.Invariant.{Holds, HasGotos}
use Rattle.lrplacing.specs.CandidatesOf.{AreCandidates}
use Rattle.lrpager.proofs.pager.construct.Given as goal

abbrev pub invariant-loop-i : goal.invariant-loop-i
invariant-loop-i g l = record {
  most : length l.drafts.items ≤ g.T.IndexStorage.MAX;
  holds : Holds l.grm l.drafts.items;
  gotos : (k : ℕ) → HasGotos l.grm l.drafts.items k;
  candidates : AreCandidates l.drafts.items l.candidates;
  tools : AreToolsFor l.grm l.tools;
  made : length l.drafts.items ≤ l.closings + unclosed l.drafts.items;
  counted : l.closings + unclosed l.drafts.items ≤ weight l.grm l.drafts.items;
  order : (us : List Draft) → ClosesAll l.grm l.from l.drafts.items us → ClosesAll l.grm 0 l.initial.drafts.items us;
}

abbrev pub decreases-loop-i : goal.decreases-loop-i
decreases-loop-i g l = g.T.IndexStorage.MAX * (1 + item_count l.grm * token_count l.grm) - l.closings
