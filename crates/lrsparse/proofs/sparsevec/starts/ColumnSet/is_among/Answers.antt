use Rattle.std.proofs.Common.{◌≡◌, ℕ, ◌+◌, ◌-◌, ◌*◌, ◌∙◌, slice_index, sym, arith}
use Rattle.std.proofs.lemmas.List.{get_or_default}
use Rattle.lrsparse.proofs.StartsKept.{among_one_more, among_by_words}
use Rattle.lrsparse.specs.Owned.{IsOwned}
use Rattle.lrsparse.specs.Starts.{IsIn}
use Rattle.lrsparse.proofs.sparsevec.starts.ColumnSet.is_among.Goals as goal

pub loop-index-init : goal.loop-index-init
loop-index-init c = (omega (arith, c.in-Some.ensures.0, c.in-Some.ensures.1), λ j i l. absurd (omega (arith, l)))

pub loop-index-preserved : goal.loop-index-preserved
loop-index-preserved c =
    let part = c.args.self.now in
    let whole = c.args.others.now in
    let index = c.loop-index.index in
    let place = c.loop-index.invariant.0 in
    let is : slice_index part.words.items index ≡ c.index.result.now =
    get_or_default part.words.items index 0 c.index.result.now (omega (arith, c.loop-index-test.true, c.len-index-end.ensures)) ∙ sym c.index.ensures in
    let there : (i : ℕ) → IsOwned whole.words.items (c.loop-index.place + i) → IsIn whole (part.first + 64 * index + i) =
    λ i o. let at : part.first + 64 * index + i - whole.first ≡ c.loop-index.place + i = omega (arith, place) in (omega (arith, place), rw at o) in (
      omega (arith, place, c.in-Some-checked_add.ensures.1),
      among_one_more part.words.items index c.places_from-own.result (λ j i. IsIn whole (part.first + 64 * j + i))
          c.loop-index.invariant.1 (λ i l bit. there i (rw c.as_slice.ensures.value at ((c.places_from-own.ensures i l).0 bit))) (rw is c.if-index-own.false),
    )

pub returns : goal.returns
returns c = λ t. among_by_words c.args.self.now c.args.others.now (λ j i l. c.loop-index.invariant.1 j i (omega (arith, c.len-index-end.ensures)))
