use Rattle.std.proofs.Common.{◌≡◌, inr, arith}
use Rattle.lrgrammar.specs.Symbols.{symbol_of}
use Rattle.lrgraphs.specs.GraphOf.{edges_of}
use Rattle.lrpager.specs.Collecting.{HasTarget}
use Rattle.lrpager.proofs.MarksAdded.{marks_none, marks_then}
use Rattle.lrpager.proofs.EdgeWalk.{found_here, left_here, none_left, marked_turn, marked_end}
use Rattle.lrpager.proofs.pager.collecting.mark_targets.Goals as goal

pub loop-symbol-init : goal.loop-symbol-init
loop-symbol-init g c = record { only = marks_none _ _ _; marked = λ u l. inr l }

pub mark-requires : goal.mark-requires
mark-requires g c =
    let number = g.T.IndexStorage.number in
    let e = c.loop-symbol-item.result in
    let found = found_here number (λ u. u) c.args.edges.now c.loop-symbol._symbol-index e c.loop-symbol-test.true c.loop-symbol-item.is c.requires.once in
    omega (arith, c.loop-symbol.invariant.only.length_is, c.requires.below e.1 (symbol_of number e.0, found))

pub loop-symbol-preserved : goal.loop-symbol-preserved
loop-symbol-preserved g c =
    let number = g.T.IndexStorage.number in
    let i = c.loop-symbol.invariant in
    let targets = HasTarget (edges_of number (λ u. u) c.args.edges.now) in
    let k = c.loop-symbol._symbol-index in
    let e = c.loop-symbol-item.result in
    let found = found_here number (λ u. u) c.args.edges.now k e c.loop-symbol-test.true c.loop-symbol-item.is c.requires.once in
    let marked = rw (left_here number (λ u. u) c.args.edges.now k e c.loop-symbol-test.true c.loop-symbol-item.is) at i.marked in
    let one = c.in_ok-mark.ensures in
    record {
      only = marks_then targets (λ k. k ≡ e.1) _ _ _ _ _ _ (λ k s. rw s (symbol_of number e.0, found)) i.only one.only;
      marked = marked_turn _ _ _ e.1 _ _ marked one.only.still one.marked;
    }

pub returns : goal.returns
returns g c =
    let i = c.loop-symbol.invariant in
    let none = none_left g.T.IndexStorage.number (λ u. u) c.args.edges.now c.loop-symbol._symbol-index c.loop-symbol-test.false in
    record { marked = marked_end _ _ _ i.marked none; only = i.only }
