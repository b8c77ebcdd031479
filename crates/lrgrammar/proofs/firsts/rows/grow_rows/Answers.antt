use Rattle.std.proofs.Common.{◌≡◌, ◌≤◌, ◌⊎◌, inl, inr, length, arith, ◌∙◌}
use Rattle.lrgrammar.proofs.DoneRows.{done_from_below}
use Rattle.lrgrammar.proofs.RowPasses.{passed_more}
use Rattle.lrgrammar.proofs.firsts.rows.grow_rows.Goals as goal
use Rattle.lrgrammar.proofs.firsts.rows.grow_rows.Goals.{then-i-count, else-i-count}

pub loop-i-preserved : goal.loop-i-preserved
loop-i-preserved g c =
    let m = c.args.grm.now in
    let p = g.T.IndexStorage.number c.unwrap.result in
    let i = c.loop-i.i in
    let e : p ≡ c.if-i-count.at = (rw c.unwrap.ensures at c.from_usize.ensures).1 in
    let n : c.to_usize-count.result ≡ length m.productions = c.to_usize-count.ensures.number ∙ c.prods_len.ensures.value in
    let k : (p ≡ i) ⊎ (length m.productions ≤ i) =
    elim c.if-i-count.branch [ then-i-count w ↦ inl (e ∙ w.at-is) | else-i-count w ↦ inr (omega (arith, n, w.if-i-count.false)) ] in
    let s = c.grow_row-grown.ensures in
    passed_more m c.args.nullable.now c.args.rows.now c.loop-i.rows c.grow_row-grown.new.rows i p c.loop-i.grown c.grow_row-grown.result k c.loop-i.invariant s.shape s.sound
    s.grown
    s.same
    s.done

pub returns-clause-done : goal.returns-clause-done
returns-clause-done g c n =
    done_from_below c.args.grm.now c.args.nullable.now c.loop-i.rows c.loop-i.i (omega (arith, c.prods_len.ensures.value, c.to_usize-count.ensures.number, c.loop-i-test.false))
    (c.loop-i.invariant.done n)
