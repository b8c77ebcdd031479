use Rattle.std.proofs.Common.{ℕ, None, refl, ap, arith}
use Rattle.std.specs.Prelude.{slice_index_or}
use Rattle.std.proofs.lemmas.List.{get_or_default}
use Rattle.lrconflicts.specs.declared.conflicts.Conflict.{Conflict}
use Rattle.lrcells.proofs.HeadedTexts.{image_listed}
use Rattle.lrconflicts.specs.Entries.{entry_of, entries_of}
use Rattle.lrreasons.specs.Reasons.{IsReason}
use Rattle.lrconflicts.proofs.ListedEntries.{entries_listed}
use Rattle.lrgrammar.specs.Symbols.{number_of}
use Rattle.lrreasons.proofs.ProvedOnes.{follows_of_some, is_ambiguous}
use Rattle.lrreasons.proofs.ReasonsInTurn.{one_more, all_more}
use Rattle.lrreasons.proofs.reasons.Reasons.reasons.Goals as goal

-- the conflict that is read where there is none
abbrev none : Conflict ℕ
none = record { state = record { 0 = 0 }; token = record { 0 = 0 }; production = record { 0 = 0 }; other = None }

pub loop-conflict-init : goal.loop-conflict-init
loop-conflict-init c = (
  rw c.as_slice-conflict-items.ensures.value c.in_ok-entries.ensures,
  rw c.new-reasons.ensures.items refl,
  rw c.new-reasons.ensures.items (λ k d l. absurd (omega arith)),
)

pub push_reason-requires-clause-listed : goal.push_reason-requires-clause-listed
push_reason-requires-clause-listed c =
    let items = c.as_slice-conflict-items.result.now in
    let i = c.loop-conflict.conflict-index in
    let l = c.loop-conflict-test.true in
    let x = slice_index_or items i none in
    let among = image_listed (entry_of number_of) items (entries_of c.args.conflicts.now) i x c.loop-conflict.invariant.0 l (get_or_default items i none x l) in
    entries_listed c.args.self.now.grammar c.args.self.now.graph (entry_of number_of x) (rw c.requires.lists at among)

pub loop-conflict-preserved : goal.loop-conflict-preserved
loop-conflict-preserved c =
    let (r, more, same, reason) = c.in_default.ensures in
    let items = c.as_slice-conflict-items.result.now in
    let i = c.loop-conflict.conflict-index in
    let l = c.loop-conflict-test.true in
    let x = slice_index_or items i none in (
      c.loop-conflict.invariant.0,
      one_more (λ x. entry_of number_of x.conflict) (entry_of number_of) c.loop-conflict.reasons.items c.push_reason.new.reasons.items r
          items i x l (get_or_default items i none x l) c.loop-conflict.invariant.1 more (ap (entry_of number_of) same),
      all_more (IsReason c.args.self.now.grammar c.args.self.now.graph) c.loop-conflict.reasons.items c.push_reason.new.reasons.items r
          c.loop-conflict.invariant.2 more reason,
    )

pub returns-clause-ambiguous : goal.returns-clause-ambiguous
returns-clause-ambiguous c = λ k d l.
    let r = slice_index_or c.loop-conflict.reasons.items k d in
    follows_of_some r.ambiguity
    (is_ambiguous c.args.self.now.grammar c.args.self.now.graph r.conflict)
    (c.loop-conflict.invariant.2 k d l).ambiguity
