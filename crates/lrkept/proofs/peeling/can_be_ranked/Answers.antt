-- a turn for each rank
use Rattle.std.proofs.Common.{ℕ, List, vec_len, subst, arith}
use Rattle.lrkept.specs.Pairs.{AreLeft}
use Rattle.lrkept.proofs.Peeled.{begin_peeled, next_peeled, never_ranked, not_empty}
use Rattle.lrkept.proofs.peeling.can_be_ranked.Goals as goal

pub loop-alloc-init : goal.loop-alloc-init
loop-alloc-init c = begin_peeled c.args.pairs.now c.args.count c.in_ok-numbers.numbers.items c.requires c.in_ok-numbers.ensures

pub returns-then-len-clause-not_ranked : goal.returns-then-len-clause-not_ranked
returns-then-len-clause-not_ranked c = λ _.
    let numbers = c.loop-alloc.numbers in
    let left = c.in_ok-left.left.items in
    let some = not_empty (vec_len numbers) c.is_empty.result c.is_empty.ensures c.loop-alloc-test.true in
    never_ranked c.args.pairs.now c.loop-alloc.numbers.items left
    (subst (λ (ns : List ℕ). AreLeft c.args.pairs.now ns left) c.as_slice.ensures.value c.in_ok-left.ensures)
    (omega (arith, c.if-len.true, c.len.ensures, c.len-in-loop-alloc.ensures, c.in_ok-left.left.ok.0, numbers.ok.0)) (omega (arith, some, numbers.ok.0))

pub loop-alloc-preserved : goal.loop-alloc-preserved
loop-alloc-preserved c =
    let left = c.in_ok-left.left.items in
    next_peeled c.args.pairs.now c.loop-alloc.numbers.items left c.loop-alloc.invariant
    (subst (λ (ns : List ℕ). AreLeft c.args.pairs.now ns left) c.as_slice.ensures.value c.in_ok-left.ensures)
