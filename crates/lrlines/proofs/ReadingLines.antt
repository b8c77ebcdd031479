-- bytes are read, and their lines are answered: more bytes are read, or the call ends
use Rattle.std.proofs.Common.{◌≡◌, ◌≢◌, ℕ, ◌+◌, ◌-◌, ◌^◌, ◌<◌, ◌≤◌, ◌∙◌, sym, ap, subst, List, [], ◌∷◌, ◌++◌, length, take, Option, length-append, arith}
use Rattle.std.proofs.lemmas.List.{append-nil, length-take-le}
use Rattle.std.specs.Io.KnownBytes.{Appends, Consumes, Keeps}
use Rattle.lrspec.specs.texts.Devices.{ConsumesSome, AppendsBeginning, AppendsFirstAnswers, GaveTooMuch}
use Rattle.lrspec.specs.texts.Lines.{nonempty, whole_lines, lines, HasNoLineFeed, answers_to, answer_text}
use Rattle.lrspec.proofs.texts.LineFacts.{rest_without_feed, no_whole_line}
use Rattle.lrlines.proofs.KnownBytes.{Appends-nothing, Appends-append, Appends-from_Keeps, beginning_behind, Consumes-nothing, Consumes-kept, Consumes-append}
use Rattle.lrlines.proofs.AnsweredLines.{some_line_of_rest, HasAnswered, answers_to-append, HasAnswered-append, begun_behind, first_behind}

-- what is taken of enough bytes is some, if that many are
pub some_taken : (bytes : List ℕ) (n : ℕ) → n ≢ 0 → n ≤ length bytes → 0 < length (take n bytes)
some_taken bytes n some fits = omega (arith, length-take-le n bytes fits)

-- the whole lines of what was read are answered, and `line` is its rest; `count` reads were made
pub record IsReading (answer : List ℕ → List ℕ) (left now old new : Option (List ℕ)) (line : List ℕ) (count : ℕ)
    : Type 0 where
  pub read : List ℕ
  pub consumed : Consumes left now read
  pub so_far : HasAnswered answer old new read line
  pub many : count ≤ length read

module _ (answer : List ℕ → List ℕ) where
  -- nothing was read
  pub IsReading-start : (left old : Option (List ℕ)) (line : List ℕ) → line ≡ []
      → IsReading answer left left old old line 0
  IsReading-start left old line e =
      let none : HasNoLineFeed [] = λ k d l. absurd (omega arith) in
      subst (λ l. IsReading answer left left old old l 0) (sym e)
      record {
        read = [];
        consumed = Consumes-nothing left;
        so_far = record {
          rest_is = sym (rest_without_feed [] none);
          no_feed = none;
          written =
              subst (λ ls. Appends old old (answers_to answer ls)) (sym (no_whole_line [] none))
              (Appends-nothing old);
        };
        many = omega arith;
      }

  module _ (left now old new : Option (List ℕ)) (line : List ℕ) (count : ℕ)
      (h : IsReading answer left now old new line count) where
    -- the whole lines of what was read are answered, also where a read gives nothing more
    pub reads_whole : (later : Option (List ℕ)) → Keeps now later
        → ConsumesSome left later (λ read. Appends old new (answers_to answer (whole_lines read)))
    reads_whole later k =
        (h.read, Consumes-kept left now later h.read h.consumed k, h.so_far.written)

    -- the reader gave a byte for each read
    pub reads_too_much : 2 ^ 64 - 1 ≤ count → GaveTooMuch left now
    reads_too_much l = (h.read, h.consumed, omega (arith, h.many))

module _ (answer : List ℕ → List ℕ) (left now later old new newer : Option (List ℕ)) (line : List ℕ) (count : ℕ) where
  -- ---- more bytes are read

  module _ (bytes : List ℕ) (h : IsReading answer left now old new line count) (c : Consumes now later bytes) where
    all_consumed : Consumes left later (h.read ++ bytes)
    all_consumed = Consumes-append left now later h.read bytes h.consumed c

    -- their lines are answered
    pub IsReading-next : (rest : List ℕ) → 0 < length bytes → HasAnswered answer new newer (line ++ bytes) rest
        → IsReading answer left later old newer rest (count + 1)
    IsReading-next rest l a = record {
      read = h.read ++ bytes;
      consumed = all_consumed;
      so_far = HasAnswered-append answer old new newer h.read line bytes rest h.so_far a;
      many = omega (arith, length-append h.read bytes, h.many);
    }

    -- the writer failed at one of them
    pub reads_begun : AppendsBeginning new newer (answer_text answer (line ++ bytes))
        → ConsumesSome left later (λ read. AppendsBeginning old newer (answer_text answer read))
    reads_begun b = (h.read ++ bytes, all_consumed, begun_behind answer old new newer h.read line bytes h.so_far b)

    -- want of memory at one of them
    pub reads_first : AppendsFirstAnswers new newer answer (lines (line ++ bytes))
        → ConsumesSome left later (λ read. AppendsFirstAnswers old newer answer (lines read))
    reads_first f = (h.read ++ bytes, all_consumed, first_behind answer old new newer h.read line bytes h.so_far f)

  -- ---- no more bytes come: `line` is the last line, if it is not empty

  module _ (n : ℕ) (buf : List ℕ) (h : IsReading answer left now old new line count) (none : n ≡ 0)
      (c : Consumes now later (take n buf)) where
    all_read : Consumes left later h.read
    all_read =
        subst (λ l. Consumes left later l) (ap (λ k. h.read ++ take k buf) none ∙ append-nil h.read)
        (Consumes-append left now later h.read (take n buf) h.consumed c)

    all_text : answer_text answer h.read
        ≡ answers_to answer (whole_lines h.read) ++ answers_to answer (nonempty (line ∷ []))
    all_text =
        ap (λ r. answers_to answer (whole_lines h.read ++ nonempty (r ∷ []))) (sym h.so_far.rest_is)
        ∙ answers_to-append answer (whole_lines h.read) (nonempty (line ∷ []))

    -- it is answered
    pub reads_all : Appends new newer (answers_to answer (nonempty (line ∷ [])))
        → ConsumesSome left later (λ read. Appends old newer (answer_text answer read))
    reads_all a = (
      h.read,
      all_read,
      subst (λ t. Appends old newer t) (sym all_text)
          (Appends-append old new newer _ _ h.so_far.written a),
    )

    -- the writer failed at it
    pub reads_all_begun : AppendsBeginning new newer (answers_to answer (nonempty (line ∷ [])))
        → ConsumesSome left later (λ read. AppendsBeginning old newer (answer_text answer read))
    reads_all_begun b =
        let before = answers_to answer (whole_lines h.read) in
        let last = answers_to answer (nonempty (line ∷ [])) in (
          h.read,
          all_read,
          beginning_behind old new newer before last [] _ h.so_far.written b
              (all_text ∙ ap (λ t. before ++ t) (sym (append-nil last))),
        )

    -- want of memory at it
    pub reads_all_first : Keeps new newer × (0 < length line)
        → ConsumesSome left later (λ read. AppendsFirstAnswers old newer answer (lines read))
    reads_all_first (k, l) =
        let some : 0 < length (lines (line ++ [])) =
        subst (λ r. 0 < length (lines r)) (sym (append-nil line))
        (some_line_of_rest line h.so_far.no_feed l) in (
          h.read,
          all_read,
          subst (λ r. AppendsFirstAnswers old newer answer (lines r)) (append-nil h.read)
              (first_behind answer old new newer h.read line [] h.so_far
              (0, some, Appends-from_Keeps new newer k)),
        )
