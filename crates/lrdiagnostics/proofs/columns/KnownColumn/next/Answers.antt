use Rattle.std.proofs.Common.{◌≡◌, [], take, drop, sym, ◌∙◌, subst}
use Rattle.std.proofs.lemmas.Bool.{eqb-true}
use Rattle.std.proofs.lemmas.List.{nil_from_length}
use Rattle.std.specs.Str.{StartsWithNoChar}
use Rattle.lrdiagnostics.proofs.FeedPlaces.{no_feed}
use Rattle.lrdiagnostics.proofs.KnownColumns.{behind_feed_in, behind_front, behind_stray}
use Rattle.lrdiagnostics.proofs.columns.KnownColumn.next.Goals as goal

pub returns-then-is_empty-clause-known : goal.returns-then-is_empty-clause-known
returns-then-is_empty-clause-known c =
    let text = c.args.bytes.now in
    let at = c.args.self.at in
    let soon : c.split_at-2.result.0.now ≡ take c.min.result (drop at text) = rw c.split_at.ensures.back at c.split_at-2.ensures.front in
    let empty : c.split_text.result.0.now ≡ [] = nil_from_length _ (eqb-true _ _ (sym c.is_empty.ensures ∙ c.if-is_empty.true)) in
    let others : c.split_text.result.1.now ≡ take c.min.result (drop at text) = rw empty at c.split_text.ensures.whole ∙ soon in
    rw c.saturating_add.ensures
    (behind_stray text at c.args.self.column c.min.result c.requires.known c.requires.more (rw c.split_at.ensures.back at c.min.ensures) (subst StartsWithNoChar others c.split_text.ensures.stray))

pub returns-in-Some-clause-known : goal.returns-in-Some-clause-known
returns-in-Some-clause-known c =
    let text = c.args.bytes.now in
    let at = c.args.self.at in
    let soon : c.split_at-2.result.0.now ≡ take c.min.result (drop at text) = rw c.split_at.ensures.back at c.split_at-2.ensures.front in
    behind_feed_in text at c.args.self.column c.min.result c.requires.known c.requires.more (rw c.split_at.ensures.back at c.min.ensures) c.split_text.result.0.now c.split_text.result.1.now
    (c.split_text.ensures.whole ∙ soon) c.in-Some.feed (rw c.as_bytes.ensures.value at c.in-Some.ensures.0.high) (eqb-true _ _ (rw c.as_bytes.ensures.value at c.in-Some.ensures.1))

pub returns-in-None-clause-known : goal.returns-in-None-clause-known
returns-in-None-clause-known c =
    let text = c.args.bytes.now in
    let at = c.args.self.at in
    let soon : c.split_at-2.result.0.now ≡ take c.min.result (drop at text) = rw c.split_at.ensures.back at c.split_at-2.ensures.front in
    rw c.column_behind.ensures
    (behind_front text at c.args.self.column c.min.result c.requires.known c.requires.more (rw c.split_at.ensures.back at c.min.ensures) c.split_text.result.0.now c.split_text.result.1.now
    (c.split_text.ensures.whole ∙ soon) c.split_text.ensures.utf8 (no_feed _ (rw c.as_bytes.ensures.value at c.in-None.ensures)))
