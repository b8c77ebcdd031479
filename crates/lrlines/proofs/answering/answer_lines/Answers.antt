use Rattle.std.proofs.Common.{◌∙◌, sym, ap, arith, Err, refl, inl, inr, ◌<◌, length}
use Rattle.std.proofs.lemmas.List.{length-take-le}
use Rattle.std.proofs.lemmas.Result.{on_ok_weaker}
use Rattle.lrlines.proofs.Counts.{failed_now, failed_since}
use Rattle.lrlines.proofs.KnownBytes.{Keeps-same}
use Rattle.lrlines.proofs.PassedErrors.{not_an_error, nothing_said, passed_on, read_not_write, read_not_memory}
use Rattle.lrlines.proofs.ReadingLines.{some_taken, IsReading-start, IsReading-next, reads_whole, reads_too_much, reads_begun, reads_first, reads_all, reads_all_begun, reads_all_first}
use Rattle.lrlines.proofs.answering.answer_lines.Goals as goal

pub returns-then-n-eq0-clause-answered : goal.returns-then-n-eq0-clause-answered
returns-then-n-eq0-clause-answered g c = record {
  end =
      let room : 0 < length c.read.new.buf = omega (arith, c.read.auto.buf, c.loop.invariant.room) in
      on_ok_weaker c.answer_rest.result (λ _. c.in-Ok.ensures.bytes.1 c.if-n-eq0.true room)
      c.answer_rest.ensures.ok;
  ok =
      on_ok_weaker c.answer_rest.result
      (reads_all _ _ _ _ _ _ _ _ _ c.in-Ok.n _ c.loop.invariant.reading c.if-n-eq0.true
      c.in-Ok.ensures.bytes.0)
      (rw (← c.as_slice.ensures.value) c.answer_rest.ensures.ok);
  read = λ e. absurd (c.answer_rest.ensures.no_read e);
  write = λ e.
      reads_all_begun _ _ _ _ _ _ _ _ _ c.in-Ok.n _ c.loop.invariant.reading c.if-n-eq0.true
      c.in-Ok.ensures.bytes.0 (rw (← c.as_slice.ensures.value) (c.answer_rest.ensures.write e));
  memory = λ e.
      reads_all_first _ _ _ _ _ _ _ _ _ c.in-Ok.n _ c.loop.invariant.reading c.if-n-eq0.true
      c.in-Ok.ensures.bytes.0 (rw (← c.as_slice.ensures.value) (c.answer_rest.ensures.memory e));
}

pub returns-then-n-eq0-clause-faults : goal.returns-then-n-eq0-clause-faults
returns-then-n-eq0-clause-faults g c = record {
  read_fault = λ e. absurd (c.answer_rest.ensures.no_read e);
  write_fault = λ e.
      failed_since _ _ _ c.loop.invariant.writer_count (c.answer_rest.ensures.write_fault e);
  reader_counts = λ n.
      c.in-Ok.ensures.count ∙ c.loop.invariant.reader_count;
  writer_counts = λ n.
      c.answer_rest.ensures.writer_counts n ∙ c.loop.invariant.writer_count;
}

pub returns-in_err-answer_bytes-clause-answered : goal.returns-in_err-answer_bytes-clause-answered
returns-in_err-answer_bytes-clause-answered g c = record {
  end =
      nothing_said _ _ c.from_residual.result c.from_residual.ensures.1;
  ok =
      nothing_said _ _ c.from_residual.result c.from_residual.ensures.1;
  read = λ e.
      absurd (c.in_err-answer_bytes.ensures.no_read
      (sym (passed_on c.from_residual.result _ c.from_residual.ensures.1) ∙ e));
  write = λ e.
      reads_begun _ _ _ _ _ _ _ _ _ _ c.loop.invariant.reading c.in-Ok.ensures.bytes.0
      (c.in_err-answer_bytes.ensures.write (ap Err (sym (rw e at c.from_residual.ensures.1))));
  memory = λ e.
      reads_first _ _ _ _ _ _ _ _ _ _ c.loop.invariant.reading c.in-Ok.ensures.bytes.0
      (c.in_err-answer_bytes.ensures.memory (ap Err (sym (rw e at c.from_residual.ensures.1))));
}

pub returns-in_err-answer_bytes-clause-faults : goal.returns-in_err-answer_bytes-clause-faults
returns-in_err-answer_bytes-clause-faults g c = record {
  read_fault = λ e.
      absurd (c.in_err-answer_bytes.ensures.no_read
      (sym (passed_on c.from_residual.result _ c.from_residual.ensures.1) ∙ e));
  write_fault = λ e.
      failed_since _ _ _ c.loop.invariant.writer_count
      (c.in_err-answer_bytes.ensures.write_fault
      (sym (passed_on c.from_residual.result _ c.from_residual.ensures.1) ∙ e));
  reader_counts = λ n.
      c.in-Ok.ensures.count ∙ c.loop.invariant.reader_count;
  writer_counts = λ n.
      c.in_err-answer_bytes.ensures.writer_counts
      (λ e. n (passed_on c.from_residual.result _ c.from_residual.ensures.1 ∙ e))
      ∙ c.loop.invariant.writer_count;
}

pub loop-preserved : goal.loop-preserved
loop-preserved g c = record {
  reading =
      IsReading-next _ _ _ _ _ _ _ _ _ _ c.loop.invariant.reading c.in-Ok.ensures.bytes.0 _
      (some_taken _ c.in-Ok.n c.if-n-eq0.false c.in-Ok.ensures.fits)
      record {
        rest_is = c.in_ok-answer_bytes.ensures.rest;
        no_feed = c.in_ok-answer_bytes.ensures.no_feed;
        written = c.in_ok-answer_bytes.ensures.ok;
      };
  prepared = c.in_ok-answer_bytes.ensures.prepared;
  reader_count = c.in-Ok.ensures.count ∙ c.loop.invariant.reader_count;
  writer_count = c.in_ok-answer_bytes.ensures.writer_counts (not_an_error _ _) ∙ c.loop.invariant.writer_count;
  room = c.read.auto.buf ∙ c.loop.invariant.room;
}

pub loop-init : goal.loop-init
loop-init g c =
    record {
      reading = IsReading-start _ _ _ _ c.new-line.ensures.items;
      prepared = tt;
      reader_count = refl;
      writer_count = refl;
      room = refl;
    }

-- ---- the reader failed

pub returns-in-Err-clause-answered : goal.returns-in-Err-clause-answered
returns-in-Err-clause-answered g c = record {
  end = tt;
  ok = tt;
  read = λ e.
      reads_whole _ _ _ _ _ _ _ c.loop.invariant.reading _ c.in-Err.ensures.bytes;
  write = λ e. absurd (read_not_write e);
  memory = λ e. absurd (read_not_memory e);
}

pub returns-in-Err-clause-faults : goal.returns-in-Err-clause-faults
returns-in-Err-clause-faults g c = record {
  read_fault = λ e.
      inl (failed_now _ _ _ c.loop.invariant.reader_count c.in-Err.ensures.count);
  write_fault = λ e. absurd (read_not_write e);
  reader_counts = λ n. absurd (n refl);
  writer_counts = λ n. c.loop.invariant.writer_count;
}

-- ---- no more bytes come

pub answer_rest-requires-clause-can : goal.answer_rest-requires-clause-can
answer_rest-requires-clause-can g c = c.requires

pub answer_rest-requires-clause-prepared : goal.answer_rest-requires-clause-prepared
answer_rest-requires-clause-prepared g c = c.loop.invariant.prepared

-- ---- a line could not be answered

pub slice_bounds-answer_bytes-end : goal.slice_bounds-answer_bytes-end
slice_bounds-answer_bytes-end g c = sym (length-take-le c.in-Ok.n _ c.in-Ok.ensures.fits)

pub answer_bytes-requires-clause-can : goal.answer_bytes-requires-clause-can
answer_bytes-requires-clause-can g c = c.requires

pub answer_bytes-requires-clause-prepared : goal.answer_bytes-requires-clause-prepared
answer_bytes-requires-clause-prepared g c = c.loop.invariant.prepared

pub answer_bytes-requires-clause-no_feed : goal.answer_bytes-requires-clause-no_feed
answer_bytes-requires-clause-no_feed g c = c.loop.invariant.reading.so_far.no_feed

-- ---- the reader has not ended

pub returns-clause-answered : goal.returns-clause-answered
returns-clause-answered g c = record {
  end = tt;
  ok = tt;
  read = λ e. reads_whole _ _ _ _ _ _ _ c.loop.invariant.reading _ (Keeps-same _);
  write = λ e. absurd (read_not_write e);
  memory = λ e. absurd (read_not_memory e);
}

pub returns-clause-faults : goal.returns-clause-faults
returns-clause-faults g c = record {
  read_fault = λ e.
      inr (reads_too_much _ _ _ _ _ _ _ c.loop.invariant.reading c.loop-test.false);
  write_fault = λ e. absurd (read_not_write e);
  reader_counts = λ n. absurd (n refl);
  writer_counts = λ n. c.loop.invariant.writer_count;
}
