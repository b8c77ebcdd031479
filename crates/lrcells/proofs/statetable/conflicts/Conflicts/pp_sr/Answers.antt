use Rattle.std.proofs.Common.{◌≡◌, [], rules, arith}
use Rattle.lrspec.specs.texts.PrintedTexts.{shift_reduce_line}
use Rattle.lrrows.specs.StoredLists.{stored_shift_reduce}
use Rattle.lrcells.proofs.HeadedTexts.{entry_listed, line_more, all_lines}
use Rattle.lrcells.proofs.statetable.conflicts.Conflicts.pp_sr.Goals as goal

pub shift_reduce_line-requires-clause-token : goal.shift_reduce_line-requires-clause-token
shift_reduce_line-requires-clause-token g c = (c.requires.entries.mixes _ _ _ (entry_listed c.loop-entry.invariant c.loop-entry-test.true c.entry-item.is)).0

pub shift_reduce_line-requires-clause-prod : goal.shift_reduce_line-requires-clause-prod
shift_reduce_line-requires-clause-prod g c = (c.requires.entries.mixes _ _ _ (entry_listed c.loop-entry.invariant c.loop-entry-test.true c.entry-item.is)).1

pub loop-entry-preserved : goal.loop-entry-preserved
loop-entry-preserved g c =
    let added : c.as_str.result.now ≡ shift_reduce_line c.args.grm.now (stored_shift_reduce g.T.IndexStorage.number c.entry-item.result) =
    rw c.as_str.ensures.value c.in_ok-shift_reduce_line.ensures in
    line_more c.loop-entry.invariant c.loop-entry-test.true c.entry-item.is added c.in_ok-push_str-2.ensures.bytes

pub returns : goal.returns
returns g c =
    let some : ¬ (c.deref-entry-items.result.now ≡ []) = search rules in
    record { text = all_lines c.loop-entry.invariant some (omega (arith, c.loop-entry-test.false)) }
