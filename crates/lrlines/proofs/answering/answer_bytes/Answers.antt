use Rattle.std.proofs.Common.{◌<◌, ◌++◌, length, ◌∙◌, sym, ap, refl, arith, Err}
use Rattle.std.specs.Str.Lines.{strip_carriage_return}
use Rattle.lrlines.proofs.Counts.{failed_since}
use Rattle.lrlines.proofs.KnownBytes.{Keeps-same}
use Rattle.lrlines.proofs.PassedErrors.{not_an_error, nothing_said, passed_on, memory_not_read, memory_not_write}
use Rattle.lrlines.proofs.AnsweringBytes.{less_behind, IsAnswering-start, IsAnswering-next, answer_begun, rest_at_end, no_feed_at_end, written_at_end, out_of_memory_at_feed, out_of_memory_at_rest}
use Rattle.lrlines.proofs.answering.answer_bytes.Goals as goal

pub loop-piece-init : goal.loop-piece-init
loop-piece-init g c = record {
  answering = IsAnswering-start _ _ _ _ c.requires.no_feed;
  prepared = c.requires.prepared;
  count = refl;
}

pub returns-in_err-extend_from_slice-clause-memory :
    goal.returns-in_err-extend_from_slice-clause-memory
returns-in_err-extend_from_slice-clause-memory g c e =
    out_of_memory_at_feed _ _ _ _ _ _ _ _ _ c.loop-piece.invariant.answering
    c.in-Some.ensures.1 c.in-Some.ensures.0 (Keeps-same _)

pub returns-in_err-answer_line-clause-write : goal.returns-in_err-answer_line-clause-write
returns-in_err-answer_line-clause-write g c e =
    answer_begun _ _ _ _ _ _ _ _ _ c.without_return.result.now c.loop-piece.invariant.answering
    c.in-Some.ensures.1 c.in-Some.ensures.0
    (c.without_return.ensures
    ∙ ap strip_carriage_return (c.as_slice.ensures.value ∙ c.in_ok-extend_from_slice.ensures.items))
    (c.in_err-answer_line.ensures.write (ap Err (sym (rw e at c.from_residual-in_err-answer_line.ensures.1))))

pub returns-in_err-answer_line-clause-memory : goal.returns-in_err-answer_line-clause-memory
returns-in_err-answer_line-clause-memory g c e =
    out_of_memory_at_feed _ _ _ _ _ _ _ _ _ c.loop-piece.invariant.answering
    c.in-Some.ensures.1 c.in-Some.ensures.0
    (c.in_err-answer_line.ensures.memory (ap Err (sym (rw e at c.from_residual-in_err-answer_line.ensures.1))))

pub loop-piece-preserved : goal.loop-piece-preserved
loop-piece-preserved g c = record {
  answering =
      rw c.clear.ensures.items
      (IsAnswering-next _ _ _ _ _ _ _ _ _ c.without_return.result.now c.loop-piece.invariant.answering
      c.in-Some.ensures.1 c.in-Some.ensures.0
      (c.without_return.ensures
      ∙ ap strip_carriage_return (c.as_slice.ensures.value ∙ c.in_ok-extend_from_slice.ensures.items))
      c.in_ok-answer_line.ensures.ok);
  prepared = c.in_ok-answer_line.ensures.prepared;
  count = c.in_ok-answer_line.ensures.writer_counts (not_an_error _ _) ∙ c.loop-piece.invariant.count;
}

pub returns-in_err-extend_from_slice-2-clause-memory :
    goal.returns-in_err-extend_from_slice-2-clause-memory
returns-in_err-extend_from_slice-2-clause-memory g c e =
    let some : 0 < length c.loop-piece.behind.now =
    omega (arith, c.in_err-extend_from_slice-2.ensures.full, c.loop-piece.line.ok) in
    out_of_memory_at_rest _ _ _ _ (c.args.line.now.items ++ c.args.bytes.now)
    c.loop-piece.line.items c.loop-piece.behind.now c.loop-piece.invariant.answering
    c.in_default.ensures some (Keeps-same _)

pub returns-clause-rest : goal.returns-clause-rest
returns-clause-rest g c =
    rest_at_end _ _ _ _ _ _ c.loop-piece.invariant.answering c.in_default.ensures _
    c.in_ok-extend_from_slice-2.ensures.items

pub returns-clause-ok : goal.returns-clause-ok
returns-clause-ok g c = written_at_end _ _ _ _ _ _ c.loop-piece.invariant.answering c.in_default.ensures

-- ---- memory was refused at a line

pub returns-in_err-extend_from_slice-clause-rest : goal.returns-in_err-extend_from_slice-clause-rest
returns-in_err-extend_from_slice-clause-rest g c =
    nothing_said _ _ c.from_residual.result c.from_residual.ensures.1

pub returns-in_err-extend_from_slice-clause-no_feed :
    goal.returns-in_err-extend_from_slice-clause-no_feed
returns-in_err-extend_from_slice-clause-no_feed g c =
    nothing_said _ _ c.from_residual.result c.from_residual.ensures.1

pub returns-in_err-extend_from_slice-clause-ok : goal.returns-in_err-extend_from_slice-clause-ok
returns-in_err-extend_from_slice-clause-ok g c =
    nothing_said _ _ c.from_residual.result c.from_residual.ensures.1

pub returns-in_err-extend_from_slice-clause-write :
    goal.returns-in_err-extend_from_slice-clause-write
returns-in_err-extend_from_slice-clause-write g c e =
    absurd (memory_not_write c.from_residual.result c.from_residual.ensures.1 e)

pub returns-in_err-extend_from_slice-clause-no_read :
    goal.returns-in_err-extend_from_slice-clause-no_read
returns-in_err-extend_from_slice-clause-no_read g c e =
    memory_not_read c.from_residual.result c.from_residual.ensures.1 e

pub returns-in_err-extend_from_slice-clause-write_fault :
    goal.returns-in_err-extend_from_slice-clause-write_fault
returns-in_err-extend_from_slice-clause-write_fault g c e =
    absurd (memory_not_write c.from_residual.result c.from_residual.ensures.1 e)

pub returns-in_err-extend_from_slice-clause-writer_counts :
    goal.returns-in_err-extend_from_slice-clause-writer_counts
returns-in_err-extend_from_slice-clause-writer_counts g c n = c.loop-piece.invariant.count

-- ---- memory was refused at the rest

pub returns-in_err-extend_from_slice-2-clause-rest :
    goal.returns-in_err-extend_from_slice-2-clause-rest
returns-in_err-extend_from_slice-2-clause-rest g c =
    nothing_said _ _ c.from_residual-in_err-extend_from_slice-2.result
    c.from_residual-in_err-extend_from_slice-2.ensures.1

pub returns-in_err-extend_from_slice-2-clause-no_feed :
    goal.returns-in_err-extend_from_slice-2-clause-no_feed
returns-in_err-extend_from_slice-2-clause-no_feed g c =
    nothing_said _ _ c.from_residual-in_err-extend_from_slice-2.result
    c.from_residual-in_err-extend_from_slice-2.ensures.1

pub returns-in_err-extend_from_slice-2-clause-ok : goal.returns-in_err-extend_from_slice-2-clause-ok
returns-in_err-extend_from_slice-2-clause-ok g c =
    nothing_said _ _ c.from_residual-in_err-extend_from_slice-2.result
    c.from_residual-in_err-extend_from_slice-2.ensures.1

pub returns-in_err-extend_from_slice-2-clause-write :
    goal.returns-in_err-extend_from_slice-2-clause-write
returns-in_err-extend_from_slice-2-clause-write g c e =
    absurd (memory_not_write c.from_residual-in_err-extend_from_slice-2.result
    c.from_residual-in_err-extend_from_slice-2.ensures.1 e)

pub returns-in_err-extend_from_slice-2-clause-no_read :
    goal.returns-in_err-extend_from_slice-2-clause-no_read
returns-in_err-extend_from_slice-2-clause-no_read g c e =
    memory_not_read c.from_residual-in_err-extend_from_slice-2.result
    c.from_residual-in_err-extend_from_slice-2.ensures.1 e

pub returns-in_err-extend_from_slice-2-clause-write_fault :
    goal.returns-in_err-extend_from_slice-2-clause-write_fault
returns-in_err-extend_from_slice-2-clause-write_fault g c e =
    absurd (memory_not_write c.from_residual-in_err-extend_from_slice-2.result
    c.from_residual-in_err-extend_from_slice-2.ensures.1 e)

pub returns-in_err-extend_from_slice-2-clause-writer_counts :
    goal.returns-in_err-extend_from_slice-2-clause-writer_counts
returns-in_err-extend_from_slice-2-clause-writer_counts g c n = c.loop-piece.invariant.count

-- ---- a line could not be answered

pub answer_line-requires-clause-can : goal.answer_line-requires-clause-can
answer_line-requires-clause-can g c = c.requires.can

pub answer_line-requires-clause-prepared : goal.answer_line-requires-clause-prepared
answer_line-requires-clause-prepared g c = c.loop-piece.invariant.prepared

pub returns-in_err-answer_line-clause-rest : goal.returns-in_err-answer_line-clause-rest
returns-in_err-answer_line-clause-rest g c =
    nothing_said _ _ c.from_residual-in_err-answer_line.result
    c.from_residual-in_err-answer_line.ensures.1

pub returns-in_err-answer_line-clause-no_feed : goal.returns-in_err-answer_line-clause-no_feed
returns-in_err-answer_line-clause-no_feed g c =
    nothing_said _ _ c.from_residual-in_err-answer_line.result
    c.from_residual-in_err-answer_line.ensures.1

pub returns-in_err-answer_line-clause-ok : goal.returns-in_err-answer_line-clause-ok
returns-in_err-answer_line-clause-ok g c =
    nothing_said _ _ c.from_residual-in_err-answer_line.result
    c.from_residual-in_err-answer_line.ensures.1

pub returns-in_err-answer_line-clause-no_read : goal.returns-in_err-answer_line-clause-no_read
returns-in_err-answer_line-clause-no_read g c e =
    c.in_err-answer_line.ensures.no_read
    (sym (passed_on c.from_residual-in_err-answer_line.result _
    c.from_residual-in_err-answer_line.ensures.1) ∙ e)

pub returns-in_err-answer_line-clause-write_fault :
    goal.returns-in_err-answer_line-clause-write_fault
returns-in_err-answer_line-clause-write_fault g c e =
    failed_since _ _ _ c.loop-piece.invariant.count
    (c.in_err-answer_line.ensures.write_fault
    (sym (passed_on c.from_residual-in_err-answer_line.result _
    c.from_residual-in_err-answer_line.ensures.1) ∙ e))

pub returns-in_err-answer_line-clause-writer_counts :
    goal.returns-in_err-answer_line-clause-writer_counts
returns-in_err-answer_line-clause-writer_counts g c n =
    c.in_err-answer_line.ensures.writer_counts
    (λ e. n (passed_on c.from_residual-in_err-answer_line.result _
    c.from_residual-in_err-answer_line.ensures.1 ∙ e))
    ∙ c.loop-piece.invariant.count

-- ---- all lines are answered

pub loop-piece-smaller : goal.loop-piece-smaller
loop-piece-smaller g c = less_behind _ _ _ c.in-Some.ensures.1

pub returns-clause-no_feed : goal.returns-clause-no_feed
returns-clause-no_feed g c =
    no_feed_at_end _ _ _ _ _ _ c.loop-piece.invariant.answering c.in_default.ensures _
    c.in_ok-extend_from_slice-2.ensures.items

pub returns-clause-write : goal.returns-clause-write
returns-clause-write g c e = absurd (not_an_error _ _ e)

pub returns-clause-memory : goal.returns-clause-memory
returns-clause-memory g c e = absurd (not_an_error _ _ e)

pub returns-clause-write_fault : goal.returns-clause-write_fault
returns-clause-write_fault g c e = absurd (not_an_error _ _ e)

pub returns-clause-no_read : goal.returns-clause-no_read
returns-clause-no_read g c e = not_an_error _ _ e

pub returns-clause-writer_counts : goal.returns-clause-writer_counts
returns-clause-writer_counts g c n = c.loop-piece.invariant.count
