-- what a conclusion keeps of findings
use Rattle.std.proofs.Common.{◌≡◌, ℕ, List, [], map, length, ap, sym}
use Rattle.std.proofs.lemmas.List.{length-map}
use Rattle.std.specs.Prelude.{IsTrue}
use Rattle.lrspec.specs.tables.LrTables.{HasNoPrecedences}
use Rattle.lryacc.specs.declared.numbering.FileGrammar.{FileGrammar}
use Rattle.lrfindings.specs.declared.findings.Findings.{Findings}
use Rattle.lrfindings.specs.CellConflicts.{Resolution}
use Rattle.lrfindings.specs.ReachedStates.{AreResolved}
use Rattle.lrfindings.specs.StoredCells.{resolution}
use Rattle.lrfindings.specs.Findings.{AreFindings}
use Rattle.lrfindings.proofs.ListedNothing.{lists_nothing}
use Rattle.lrshown.specs.declared.evidence.Evidence.{Evidence}
use Rattle.lrreport.specs.LeftOpen.{AreLeftOpen}

module _ (max : ℕ) (file : FileGrammar) (f : Findings) (a : AreFindings max file f) where
  -- the conflicts that are left open
  pub are_left : AreLeftOpen f.grm a.graph f.left.items
  are_left = record {
    plain = λ plain. rw (← a.table.reduce_reduce, ← a.table.shift_reduce) (a.left_listed plain);
    others = a.left;
  }

  -- how many are resolved
  pub so_many_resolved : (rs : List Resolution) × AreResolved f.grm a.graph rs × (length f.resolved.items ≡ length rs)
  so_many_resolved = (map resolution f.resolved.items, a.resolved, sym (length-map f.resolved.items resolution))

  -- where none is left and no token has a precedence it is known
  pub known_without : HasNoPrecedences f.grm → f.left.items ≡ [] → IsTrue f.is_unambiguous
  known_without plain none = a.known plain (lists_nothing f.table f.left.items (a.left_listed plain) none)

-- where nothing is known of entries there is none
pub none_known : (es : List Evidence) → es ≡ [] → map (λ e. e.entry) es ≡ []
none_known es none = ap (λ es. map (λ e. e.entry) es) none
