-- code that is read byte by byte
use Rattle.std.proofs.Common.{◌≡◌, ◌≢◌, ℕ, zero, suc, ◌+◌, ◌-◌, ◌^◌, ◌<◌, ◌≤◌, ◌⊎◌, inl, inr, min, true, false, Option, Some, None, IfNone, IfSome, List, length, slice_index, refl, subst, sym, ap, ◌∙◌, arith, below_more}
use Rattle.std.proofs.lemmas.List.{get_or_past}
use Rattle.lryacc.specs.declared.code.CodeReader.{CodeReader}
use Rattle.lryacc.specs.declared.code.Ending.{Ending}
use Rattle.lryacc.specs.declared.code.Ending.TheVariants.{Brace, File, PrologueMark}
use Rattle.lryacc.specs.declared.code.Escape.{Escape}
use Rattle.lryacc.specs.declared.code.Escape.TheVariants as escape
use Rattle.lryacc.specs.declared.code.Mark.{Mark}
use Rattle.lryacc.specs.declared.code.Within.{Within}
use Rattle.lryacc.specs.declared.code.Within.TheVariants as within
use Rattle.lryacc.specs.Comments.{IsBackslash, IsBlock, IsLineComment, IsPair, is_line_blank}
use Rattle.lryacc.specs.Code.{AreInQuotation, EndsCode, IsCode, is_mark, is_single}
use Rattle.lryacc.specs.CodeRead.{IsCodeUpTo, IsEscape, IsMark, IsMarkBehind, IsPending, IsWithin, LeadsOn, TakesByte, TakesMark}

-- ---- marks

-- a byte that makes no mark with the next one is plain
pub pending-plain : (ending : Ending) (text : List ℕ) (from at first opened closed : ℕ)
    → IsPending ending text from at first opened closed → is_mark ending first (slice_index text at) ≡ false
    → IsCode ending text from at opened closed
pending-plain ending text from at first opened closed p none =
    let pair_at : is_mark ending first (slice_index text (p.last + 1)) ≡ false =
    subst (λ k. is_mark ending first (slice_index text k) ≡ false) p.at_is none in
    let pair : is_mark ending (slice_index text p.last) (slice_index text (p.last + 1)) ≡ false =
    subst (λ b. is_mark ending b (slice_index text (p.last + 1)) ≡ false) (sym p.first_is) pair_at in
    let single : is_single (slice_index text p.last) ≡ false =
    subst (λ b. is_single b ≡ false) (sym p.first_is) p.single in
    subst (λ k. IsCode ending text from k opened closed) (sym p.at_is)
    (IsCode.plain p.code (record { single = single; pair = pair }))

-- with the next one it makes a mark
pub pending-pair : (ending : Ending) (text : List ℕ) (from at first opened closed one other : ℕ)
    → (p : IsPending ending text from at first opened closed) → first ≡ one → slice_index text at ≡ other
    → IsPair text p.last one other
pending-pair ending text from at first opened closed one other p e is =
    record { one = p.first_is ∙ e; other = subst (λ k. slice_index text k ≡ other) p.at_is is }

-- `<<`
pub mark-shift : (ending : Ending) (text : List ℕ) (from at first opened closed : ℕ)
    → IsPending ending text from at first opened closed → first ≡ 60 → slice_index text at ≡ 60
    → IsCode ending text from (at + 1) opened closed
mark-shift ending text from at first opened closed p e is =
    let end : p.last + 2 ≡ at + 1 = omega (arith, p.at_is) in
    subst (λ k. IsCode ending text from k opened closed) end
    (IsCode.shift p.code (pending-pair ending text from at first opened closed 60 60 p e is))

-- `<%`
pub mark-opens : (ending : Ending) (text : List ℕ) (from at first opened closed : ℕ)
    → IsPending ending text from at first opened closed → first ≡ 60 → slice_index text at ≡ 37
    → IsCode ending text from (at + 1) (opened + 1) closed
mark-opens ending text from at first opened closed p e is =
    let end : p.last + 2 ≡ at + 1 = omega (arith, p.at_is) in
    subst (λ k. IsCode ending text from k (opened + 1) closed) end
    (IsCode.opens_pair p.code (pending-pair ending text from at first opened closed 60 37 p e is))

-- `%>`
pub mark-closes : (ending : Ending) (text : List ℕ) (from at first opened closed : ℕ)
    → IsPending ending text from at first opened closed → first ≡ 37 → slice_index text at ≡ 62
    → IsCode ending text from (at + 1) opened (closed + 1)
mark-closes ending text from at first opened closed p e is =
    let end : p.last + 2 ≡ at + 1 = omega (arith, p.at_is) in
    subst (λ k. IsCode ending text from k opened (closed + 1)) end
    (IsCode.closes_pair p.code (pending-pair ending text from at first opened closed 37 62 p e is))

-- `%}`
pub mark-ends : (ending : Ending) (text : List ℕ) (from at first opened closed : ℕ) → ending ≡ PrologueMark
    → IsPending ending text from at first opened closed → first ≡ 37 → slice_index text at ≡ 125
    → EndsCode ending text from (at + 1)
mark-ends ending text from at first opened closed prologue p e is =
    subst (λ ending. EndsCode ending text from (at + 1)) (sym prologue)
    (record {
      last = p.last;
      opened = opened;
      closed = closed;
      code = subst (λ ending. IsCode ending text from p.last opened closed) prologue p.code;
      mark = pending-pair ending text from at first opened closed 37 125 p e is;
      behind = omega (arith, p.at_is);
    })

-- the second byte of a mark
pub mark-taken : (ending : Ending) (at byte : ℕ) (before : Option ℕ) (mark : Mark) (reader : CodeReader)
    (found : Option CodeReader) → IsMarkBehind ending mark before byte → TakesMark at mark reader found
    → TakesByte ending at byte before reader found
mark-taken ending at byte None mark reader found is takes = absurd is
mark-taken ending at byte (Some first) mark reader found is takes = λ text from inside here up.
    takes ending text from first inside (subst (IsMark ending mark first) (sym here) is) up

-- a byte that makes no mark with the one before
pub byte-taken : (ending : Ending) (at byte : ℕ) (before : Option ℕ) (reader : CodeReader) (found : Option CodeReader)
    → IfSome before (λ first. is_mark ending first byte ≡ false) → TakesByte ending at byte None reader found
    → TakesByte ending at byte before reader found
byte-taken ending at byte None reader found none takes = takes
byte-taken ending at byte (Some first) reader found none takes = λ text from inside here up.
    takes text from inside here
    (record {
      is =
          pending-plain ending text from at first reader.opened reader.closed up.is
          (subst (λ b. is_mark ending first b ≡ false) (sym here) none);
      opened = up.opened;
      closed = up.closed;
    })

-- ---- braces

-- a brace more is open
pub with-opened : (ending : Ending) (text : List ℕ) (from at : ℕ) (reader : CodeReader) → at < 2 ^ 64 - 1
    → reader.opened ≤ at → reader.closed ≤ at → IsCode ending text from (at + 1) (reader.opened + 1) reader.closed
    → IsCodeUpTo ending text from (at + 1)
    (record reader { within = within.Code None; opened = min (reader.opened + 1) (2 ^ 64 - 1) })
with-opened ending text from at reader fits opened closed is =
    let count : min (reader.opened + 1) (2 ^ 64 - 1) ≡ reader.opened + 1 = omega arith in
    record {
      is = subst (λ n. IsCode ending text from (at + 1) n reader.closed) (sym count) is;
      opened = omega arith;
      closed = omega arith;
    }

-- a brace more is closed
pub with-closed : (ending : Ending) (text : List ℕ) (from at : ℕ) (reader : CodeReader) → at < 2 ^ 64 - 1
    → reader.opened ≤ at → reader.closed ≤ at → IsCode ending text from (at + 1) reader.opened (reader.closed + 1)
    → IsCodeUpTo ending text from (at + 1)
    (record reader { within = within.Code None; closed = min (reader.closed + 1) (2 ^ 64 - 1) })
with-closed ending text from at reader fits opened closed is =
    let count : min (reader.closed + 1) (2 ^ 64 - 1) ≡ reader.closed + 1 = omega arith in
    record {
      is = subst (λ n. IsCode ending text from (at + 1) reader.opened n) (sym count) is;
      opened = omega arith;
      closed = omega arith;
    }

-- the last brace is closed
pub brace-ends : (ending : Ending) (text : List ℕ) (from at opened closed : ℕ) → ending ≡ Brace
    → IsCode ending text from at opened closed → opened ≤ closed → slice_index text at ≡ 125
    → EndsCode ending text from (at + 1)
brace-ends ending text from at opened closed brace is all byte =
    subst (λ ending. EndsCode ending text from (at + 1)) (sym brace)
    (record {
      last = at;
      opened = opened;
      closed = closed;
      code = subst (λ ending. IsCode ending text from at opened closed) brace is;
      all = all;
      brace = byte;
      behind = refl;
    })

-- ---- one byte more

-- what is read within something goes on
pub goes-on : (ending : Ending) (text : List ℕ) (from at byte : ℕ) (reader : CodeReader) (before after : Within)
    → at < length text → slice_index text at ≡ byte → reader.within ≡ before → LeadsOn byte before after
    → IsCodeUpTo ending text from at reader → IsCodeUpTo ending text from (at + 1) (record reader { within = after })
goes-on ending text from at byte reader before after inside is before_is leads up =
    let is_before : IsWithin ending text from at reader.opened reader.closed before =
    subst (IsWithin ending text from at reader.opened reader.closed) before_is up.is in
    record {
      is = leads ending text from at reader.opened reader.closed inside is is_before;
      opened = omega (arith, up.opened);
      closed = omega (arith, up.closed);
    }

-- only blanks stand behind a backslash, and one more
backslash-more : (text : List ℕ) (backslash at : ℕ) → IsBackslash text backslash at
    → is_line_blank (slice_index text at) ≡ true → IsBackslash text backslash (at + 1)
backslash-more text backslash at is blank =
    record {
      is = is.is;
      behind = omega (arith, is.behind);
      blanks = below_more (λ k. backslash < k → is_line_blank (slice_index text k) ≡ true) at is.blanks (λ _. blank);
    }

-- a backslash stands right before a place
backslash-here : (text : List ℕ) (at : ℕ) → slice_index text at ≡ 92 → IsBackslash text at (at + 1)
backslash-here text at is = record { is = is; behind = omega arith; blanks = λ k low high. absurd (omega arith) }

-- ---- quotes

byte-at : (text : List ℕ) (at byte other : ℕ) → slice_index text at ≡ byte → byte ≢ other → slice_index text at ≢ other
byte-at text at byte other is apart = λ e. apart (sym is ∙ e)

pub quote-closes : (quote start byte : ℕ) → byte ≡ quote
    → LeadsOn byte (within.Quotes quote start escape.None) (within.Code None)
quote-closes quote start byte e = λ ending text from at opened closed inside is up.
    IsCode.quotation up.0 (record { quote = quote; opens = up.1; between = up.2; closes = is ∙ e })

pub backslash-begins : (quote start byte : ℕ) → byte ≡ 92
    → LeadsOn byte (within.Quotes quote start escape.None) (within.Quotes quote start escape.Begun)
backslash-begins quote start byte e = λ ending text from at opened closed inside is up.
    (up.0, up.1, (record { backslash = at; before = up.2; is = backslash-here text at (is ∙ e) }, refl))

pub quoted-byte : (quote start byte : ℕ) → byte ≢ quote → byte ≢ 10 → byte ≢ 92
    → LeadsOn byte (within.Quotes quote start escape.None) (within.Quotes quote start escape.None)
quoted-byte quote start byte no_quote no_feed no_backslash = λ ending text from at opened closed inside is up. (
  up.0,
  up.1,
  AreInQuotation.one up.2 (byte-at text at byte quote is no_quote) (byte-at text at byte 10 is no_feed)
      (byte-at text at byte 92 is no_backslash),
)

escape-more : (quote : ℕ) (text : List ℕ) (from at : ℕ) (up : IsEscape quote text from at)
    → is_line_blank (slice_index text at) ≡ true → IsEscape quote text from (at + 1)
escape-more quote text from at up blank =
    record { backslash = up.backslash; before = up.before; is = backslash-more text up.backslash at up.is blank }

blank-at : (text : List ℕ) (at byte : ℕ) → slice_index text at ≡ byte → is_line_blank byte ≡ true
    → is_line_blank (slice_index text at) ≡ true
blank-at text at byte is blank = subst (λ b. is_line_blank b ≡ true) (sym is) blank

pub blank-begins : (quote start byte : ℕ) → is_line_blank byte ≡ true
    → LeadsOn byte (within.Quotes quote start escape.Begun) (within.Quotes quote start escape.Blanks)
unfolding escape-more
blank-begins quote start byte blank = λ ending text from at opened closed inside is up.
    let had : IsEscape quote text (start + 1) at = up.2.0 in
    let long : had.backslash + 2 ≤ at + 1 = omega (arith, up.2.1) in
    (up.0, up.1, (escape-more quote text (start + 1) at had (blank-at text at byte is blank), long))

pub blank-more : (quote start byte : ℕ) → is_line_blank byte ≡ true
    → LeadsOn byte (within.Quotes quote start escape.Blanks) (within.Quotes quote start escape.Blanks)
unfolding escape-more
blank-more quote start byte blank = λ ending text from at opened closed inside is up.
    let had : IsEscape quote text (start + 1) at = up.2.0 in
    let long : had.backslash + 2 ≤ at + 1 = omega (arith, up.2.1) in
    (up.0, up.1, (escape-more quote text (start + 1) at had (blank-at text at byte is blank), long))

-- a backslash takes the byte behind it
pub backslash-takes : (quote start byte : ℕ)
    → LeadsOn byte (within.Quotes quote start escape.Begun) (within.Quotes quote start escape.None)
backslash-takes quote start byte = λ ending text from at opened closed inside is up.
    let had = up.2.0 in
    let end : had.backslash + 2 ≡ at + 1 = omega (arith, up.2.1) in (
      up.0,
      up.1,
      subst (AreInQuotation quote text (start + 1)) end (AreInQuotation.escaped had.before had.is.is),
    )

-- or the end of its line
pub backslash-joins : (quote start byte : ℕ) → byte ≡ 10
    → LeadsOn byte (within.Quotes quote start escape.Blanks) (within.Quotes quote start escape.None)
backslash-joins quote start byte e = λ ending text from at opened closed inside is up.
    let had = up.2.0 in
    (up.0, up.1, AreInQuotation.spliced had.before had.is (is ∙ e))

-- where neither, the blanks stand for themselves
blank-apart : (byte other : ℕ) → is_line_blank byte ≡ true → is_line_blank other ≡ false → byte ≢ other
blank-apart byte other blank none = λ e.
    let is : is_line_blank other ≡ true = subst (λ b. is_line_blank b ≡ true) e blank in
    absurd (cc)

blank-no_quote : (quote byte : ℕ) → (quote ≡ 34) ⊎ (quote ≡ 39) → is_line_blank byte ≡ true → byte ≢ quote
blank-no_quote quote byte one blank = λ e.
    elim one [
      | inl is ↦ blank-apart byte 34 blank refl (e ∙ is)
      | inr is ↦ blank-apart byte 39 blank refl (e ∙ is)
    ]

blanks-are : (quote : ℕ) (text : List ℕ) (from at : ℕ) (n : ℕ) → (quote ≡ 34) ⊎ (quote ≡ 39)
    → AreInQuotation quote text from at → ((k : ℕ) → at ≤ k → k < at + n → is_line_blank (slice_index text k) ≡ true)
    → AreInQuotation quote text from (at + n)
blanks-are quote text from at zero one had blanks =
    let none : at ≡ at + 0 = omega arith in
    subst (AreInQuotation quote text from) none had
blanks-are quote text from at (suc n) one had blanks =
    let more = blanks-are quote text from at n one had (λ k low high. blanks k low (omega arith)) in
    let blank : is_line_blank (slice_index text (at + n)) ≡ true = blanks (at + n) (omega arith) (omega arith) in
    let end : (at + n) + 1 ≡ at + suc n = omega arith in
    subst (AreInQuotation quote text from) end
    (AreInQuotation.one more (blank-no_quote quote (slice_index text (at + n)) one blank)
    (blank-apart (slice_index text (at + n)) 10 blank refl) (blank-apart (slice_index text (at + n)) 92 blank refl))

pub blanks-stand : (quote start byte : ℕ) (found : Option Within)
    → IfSome found (LeadsOn byte (within.Quotes quote start escape.None))
    → IfSome found (LeadsOn byte (within.Quotes quote start escape.Blanks))
blanks-stand quote start byte None leads = tt
blanks-stand quote start byte (Some after) leads = λ ending text from at opened closed inside is up.
    let had = up.2.0 in
    let n : ℕ = at - (had.backslash + 2) in
    let end : had.backslash + 2 + n ≡ at = omega (arith, up.2.1) in
    let before =
    blanks-are quote text (start + 1) (had.backslash + 2) n up.1.one (AreInQuotation.escaped had.before had.is.is)
    (λ k low high. had.is.blanks k (omega arith) (omega arith)) in
    leads ending text from at opened closed inside is
    (up.0, up.1, subst (AreInQuotation quote text (start + 1)) end before)

-- ---- comments

-- a comment ends with its line
pub line-ends : (byte : ℕ) → byte ≡ 10 → LeadsOn byte (within.Line escape.None) (within.Code None)
line-ends byte e = λ ending text from at opened closed inside is up.
    let had = up.2 in
    let comment : IsLineComment text up.0 at =
    record {
      opens = had.opens;
      behind = had.behind;
      first = had.first;
      ends = inl (record { inside = inside; feed = is ∙ e; bare = had.spliced });
    } in
    let end : min (at + 1) (length text) ≡ at + 1 = omega arith in
    subst (λ k. IsCode ending text from k opened closed) end (IsCode.line up.1 comment)

-- or with the text
pub line-at_end : (ending : Ending) (text : List ℕ) (from opened closed : ℕ) (escape : Escape)
    → IsWithin ending text from (length text) opened closed (within.Line escape)
    → IsCode ending text from (length text) opened closed
line-at_end ending text from opened closed escape up =
    let had = up.2 in
    let comment : IsLineComment text up.0 (length text) =
    record { opens = had.opens; behind = had.behind; first = had.first; ends = inr refl } in
    let end : min (length text + 1) (length text) ≡ length text = omega arith in
    subst (λ k. IsCode ending text from k opened closed) end (IsCode.line up.1 comment)

-- a comment ends with `*/`
pub block-ends : (start byte : ℕ) → byte ≡ 47 → LeadsOn byte (within.Block start true) (within.Code None)
block-ends start byte e = λ ending text from at opened closed inside is up.
    let had = up.1 in
    let star = had.star_is refl in
    let long : start + 2 < at = star.0 in
    let here : (at - 1) + 1 ≡ at = omega arith in
    let end : (at - 1) + 2 ≡ at + 1 = omega arith in
    let comment : IsBlock text start (at - 1) =
    record {
      opens = had.opens;
      behind = omega arith;
      closes = record { one = star.1; other = ap (slice_index text) here ∙ is ∙ e };
      first = λ k low high. had.first k low (omega arith);
    } in
    subst (λ k. IsCode ending text from k opened closed) end (IsCode.block up.0 comment)

-- ---- the end of the text

-- a byte at the end of the text makes no mark
pub code-at_end : (ending : Ending) (text : List ℕ) (from opened closed : ℕ) (before : Option ℕ)
    → IsWithin ending text from (length text) opened closed (within.Code before)
    → IsCode ending text from (length text) opened closed
code-at_end ending text from opened closed None is = is
code-at_end ending text from opened closed (Some first) is =
    let past : slice_index text (length text) ≡ 0 = get_or_past text (length text) 0 (omega arith) in
    pending-plain ending text from (length text) first opened closed is
    (subst (λ b. is_mark ending first b ≡ false) (sym past) refl)

-- code that ends with the text
with_text : (ending : Ending) (text : List ℕ) (from : ℕ) (reader : CodeReader) → ending ≡ File
    → IsCode ending text from (length text) reader.opened reader.closed → EndsCode ending text from (length text)
with_text ending text from reader file is =
    subst (λ ending. EndsCode ending text from (length text)) (sym file)
    (record {
      opened = reader.opened;
      closed = reader.closed;
      code =
          subst (λ ending. IsCode ending text from (length text) reader.opened reader.closed) file is;
      all = refl;
    })

-- it ends there in code itself or in a comment up to the end of its line
pub text-ends : {A : Type 0} (found : Option A) (ending : Ending) (reader : CodeReader) → IfNone found (ending ≡ File)
    → ((before : Option ℕ) × (reader.within ≡ within.Code before)) ⊎ ((kind : Escape) × (reader.within ≡ within.Line kind))
    → IfNone found ((text : List ℕ) (from : ℕ) → IsCodeUpTo ending text from (length text) reader
    → EndsCode ending text from (length text))
text-ends (Some fault) ending reader none is = tt
text-ends None ending reader file is = λ text from up.
    let within_is = IsWithin ending text from (length text) reader.opened reader.closed in
    elim is [
      | inl is ↦ with_text ending text from reader file
          (code-at_end ending text from reader.opened reader.closed is.0 (subst within_is is.1 up.is))
      | inr is ↦ with_text ending text from reader file
          (line-at_end ending text from reader.opened reader.closed is.0 (subst within_is is.1 up.is))
    ]
