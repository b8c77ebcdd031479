use Rattle.std.proofs.Common.{◌∙◌, ℕ, sym, ap, inl}
use Rattle.std.proofs.lemmas.List.{map_more, take_all}
use Rattle.lrrows.specs.StoredActions.{action_numbered, stored_action}
use Rattle.lrrows.proofs.ReducedRows.{found_again, found_more, found_contains, put_key, no_reduction}
use Rattle.lrrows.proofs.rows.reduced.Goals as goal
use Rattle.lrrows.proofs.rows.reduced.Goals.{then-number-last+in-Reduce+in_ok-insert, then-number-last+in_default, else-number-last}

pub loop-number-preserved : goal.loop-number-preserved
loop-number-preserved g c =
    let number = g.T.IndexStorage.number in
    let ordered = g.met.T.IndexStorage.ordered in
    let before = c.loop-number.invariant in
    let more = map_more (λ (e : ℕ × ℕ). action_numbered e.1) c.args.row.now c.loop-number.number-index (0, 0) c.loop-number-test.true in
    elim c.if-number-last.branch [
      | then-number-last+in-Reduce+in_ok-insert w ↦
          let is = sym w.action_of_number.ensures ∙ ap (stored_action number) w.in-Reduce.is in
          let put = put_key (λ q. number q.0) (λ a b. g.T.Ord.cmp a.0 b.0) (λ a b. ordered a.0 b.0) c.loop-number.found.keys w.in-Reduce.pidx in
          rw (w.found-is, w.last-is, more, w.in_ok-insert.ensures.keys) (record {
            found = found_more _ _ _ _ (number w.in-Reduce.pidx.0) is put before.found;
            last = λ p e. (put p).1 (inl (let both = sym e ∙ is in cc));
          })
      | then-number-last+in_default w ↦
          let none = no_reduction number w.action_of_number.result w.in_default.not-Reduce in
          rw (w.found-is, w.last-is, more) (record {
            found = found_again _ _ _ (λ p e. absurd (none p (w.action_of_number.ensures ∙ e))) before.found;
            last = before.last;
          })
      | else-number-last w ↦
          rw (w.found-is, w.last-is, more) (record {
            found = found_again _ _ _ (λ p e. before.last p (ap action_numbered (sym w.if-number-last.false) ∙ e)) before.found;
            last = before.last;
          })
    ]

pub returns : goal.returns
returns g c =
    let all = take_all c.loop-number.number-index c.args.row.now c.loop-number-test.false in
    found_contains _ _ (rw all at c.loop-number.invariant.found)
