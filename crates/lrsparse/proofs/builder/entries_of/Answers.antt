use Rattle.std.proofs.Common.{◌≡◌, ◌∙◌, length, refl, sym, arith, get_or}
use Rattle.std.proofs.lemmas.List.{get_or_default}
use Rattle.lrsparse.proofs.RowSoFar.{column_passed, column_more, row_ended}
use Rattle.lrsparse.proofs.builder.entries_of.Goals as goal
use Rattle.lrsparse.proofs.builder.entries_of.Goals.{then-number-empty+in_ok-push, else-number-empty}

pub loop-column-preserved : goal.loop-column-preserved
loop-column-preserved c =
    let empty = c.args.empty in
    let numbers = c.args.numbers.now in
    let column = c.loop-column.column in
    let same : get_or numbers column empty ≡ get_or numbers column 0 = get_or_default numbers column empty 0 c.loop-column-test.true in
    elim c.if-number-empty.branch [
      | then-number-empty+in_ok-push w ↦
          rw (w.entries-is, w.in_ok-push.ensures.items)
          (column_more empty (λ c. get_or numbers c empty) column (get_or numbers column 0) c.loop-column.entries.items w.if-number-empty.true (sym same) c.loop-column.invariant)
      | else-number-empty w ↦
          rw (w.entries-is) (column_passed empty (λ c. get_or numbers c empty) column c.loop-column.entries.items (same ∙ w.if-number-empty.false) c.loop-column.invariant)
    ]

pub returns-clause-numbers : goal.returns-clause-numbers
returns-clause-numbers c =
    let empty = c.args.empty in
    let numbers = c.args.numbers.now in
    let all : c.loop-column.column ≡ length numbers = omega arith in
    row_ended empty (λ c. get_or numbers c empty) numbers (length numbers) c.loop-column.entries.items refl (λ c l. refl) (rw all at c.loop-column.invariant)
