-- how the answering of lines ends
use Rattle.std.specs.Prelude.{◌≡◌, ◌≢◌, ◌⊎◌, ℕ, List, Option, Result, Err, OnOk}
use Rattle.std.specs.Io.KnownBytes.{Appends, IsAtEnd}
use Rattle.lrspec.specs.texts.Devices.{ConsumesSome, AppendsBeginning, AppendsFirstAnswers, HasFailed, GaveTooMuch}
use Rattle.lrspec.specs.texts.Lines.{whole_lines, lines, answers_to, answer_text}
use Rattle.lrlines.specs.declared.errors.LineError.{LineError}
use Rattle.lrlines.specs.declared.errors.LineError.TheVariants as ended

-- lines were answered, of a reader with `bytes` and then `left`, on a writer with `old` and then
-- `new`: where it ended well, all of them, up to the reader's end
pub record AreAnswered {X : Type 0} (answer : List ℕ → List ℕ) (result : Result X LineError)
    (bytes left old new : Option (List ℕ)) : Type 0 where
  pub end : OnOk result (IsAtEnd left)
  pub ok :
      OnOk result (ConsumesSome bytes left (λ read. Appends old new (answer_text answer read)))
  -- where the reader failed, all lines that were whole by then
  pub read :
      result ≡ Err ended.Read
      → ConsumesSome bytes left (λ bs. Appends old new (answers_to answer (whole_lines bs)))
  -- where the writer failed, a beginning of the answers was written
  pub write :
      result ≡ Err ended.Write
      → ConsumesSome bytes left (λ bs. AppendsBeginning old new (answer_text answer bs))
  -- where memory was refused, the first lines are answered whole
  pub memory :
      result ≡ Err ended.Memory
      → ConsumesSome bytes left (λ bs. AppendsFirstAnswers old new answer (lines bs))

-- when each error comes, and that no fault of a device is kept back: the reader failed `reads` and
-- then `reads_new` times, the writer `writes` and then `writes_new` times
pub record AreFaultsTold {X : Type 0} (result : Result X LineError)
    (bytes left : Option (List ℕ)) (reads reads_new writes writes_new : ℕ) : Type 0 where
  pub read_fault :
      result ≡ Err ended.Read → HasFailed reads reads_new ⊎ GaveTooMuch bytes left
  pub write_fault : result ≡ Err ended.Write → HasFailed writes writes_new
  pub reader_counts : result ≢ Err ended.Read → reads_new ≡ reads
  pub writer_counts : result ≢ Err ended.Write → writes_new ≡ writes
