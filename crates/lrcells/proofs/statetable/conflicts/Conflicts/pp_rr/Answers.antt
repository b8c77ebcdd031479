use Rattle.std.proofs.Common.{◌≡◌, [], rules, arith}
use Rattle.lrspec.specs.texts.PrintedTexts.{reduce_reduce_line}
use Rattle.lrrows.specs.StoredLists.{stored_reduce_reduce}
use Rattle.lrcells.proofs.HeadedTexts.{entry_listed, line_more, all_lines}
use Rattle.lrcells.proofs.statetable.conflicts.Conflicts.pp_rr.Goals as goal

pub reduce_reduce_line-requires-clause-token : goal.reduce_reduce_line-requires-clause-token
reduce_reduce_line-requires-clause-token g c = (c.requires.entries.pairs _ _ _ _ (entry_listed c.loop-entry.invariant c.loop-entry-test.true c.entry-item.is)).0

pub reduce_reduce_line-requires-clause-taken : goal.reduce_reduce_line-requires-clause-taken
reduce_reduce_line-requires-clause-taken g c = (c.requires.entries.pairs _ _ _ _ (entry_listed c.loop-entry.invariant c.loop-entry-test.true c.entry-item.is)).1

pub reduce_reduce_line-requires-clause-other : goal.reduce_reduce_line-requires-clause-other
reduce_reduce_line-requires-clause-other g c = (c.requires.entries.pairs _ _ _ _ (entry_listed c.loop-entry.invariant c.loop-entry-test.true c.entry-item.is)).2

pub loop-entry-preserved : goal.loop-entry-preserved
loop-entry-preserved g c =
    let added : c.as_str.result.now ≡ reduce_reduce_line c.args.grm.now (stored_reduce_reduce g.T.IndexStorage.number c.entry-item.result) =
    rw c.as_str.ensures.value c.in_ok-reduce_reduce_line.ensures in
    line_more c.loop-entry.invariant c.loop-entry-test.true c.entry-item.is added c.in_ok-push_str-2.ensures.bytes

pub returns : goal.returns
returns g c =
    let some : ¬ (c.deref-entry-items.result.now ≡ []) = search rules in
    record { text = all_lines c.loop-entry.invariant some (omega (arith, c.loop-entry-test.false)) }
