use Rattle.std.proofs.Common.{◌≡◌, ◌∙◌, ◌++◌, length, take, drop, sym, ap, arith}
use Rattle.std.proofs.Math.Seq.{take-append_seam}
use Rattle.lrsparse.proofs.ColumnsOfRow.{column_from_first, column_to_last, last_there}
use Rattle.lrsparse.proofs.StartsKept.{set_of_list}
use Rattle.lrsparse.proofs.sparsevec.starts.set_of.Goals as goal

pub overflow_sub-last : goal.overflow_sub-last
overflow_sub-last c =
    let there = last_there c.args.columns.now _ (sym c.in-Some-Some.ensures'.value) in
    omega (
      arith,
      there.1,
      column_from_first c.args.columns.now c.requires.upwards _ (sym c.in-Some-Some.ensures.value) _ there.0,
    )

pub own_columns_behind-requires-clause-behind : goal.own_columns_behind-requires-clause-behind
own_columns_behind-requires-clause-behind c = λ k l.
    omega (arith, column_from_first c.args.columns.now c.requires.upwards _ (sym c.in-Some-Some.ensures.value) k l)

pub own_columns_behind-requires-clause-within : goal.own_columns_behind-requires-clause-within
own_columns_behind-requires-clause-within c = λ k l.
    omega (
      arith,
      column_to_last c.args.columns.now c.requires.upwards _ (sym c.in-Some-Some.ensures'.value) k l,
      ap length c.as_mut_slice.ensures.value,
      c.in_ok-words.ensures.len,
    )

pub returns : goal.returns
returns c =
    let columns = c.args.columns.now in
    let new = c.own_columns_behind.new.words in
    let words = c.in_ok-words.words in
    let long : length new ≡ words.len = c.own_columns_behind.auto.words ∙ c.as_mut_slice.ensures.len in
    let whole : take words.len (new ++ drop (length new) words.items) ≡ new = rw (← long) (take-append_seam new (drop (length new) words.items)) in
    rw whole
    (set_of_list c.as_mut_slice.result.now new columns c.in-Some-Some.first.now _
    (c.as_mut_slice.ensures.value ∙ c.in_ok-words.ensures.items_if_clones_equal (λ y e. e))
    (λ k l. column_from_first columns c.requires.upwards _ (sym c.in-Some-Some.ensures.value) k l)
    c.own_columns_behind.ensures)
