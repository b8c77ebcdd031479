-- code of Rust that is read byte by byte
use Rattle.std.proofs.Common.{◌≡◌, ◌≢◌, ℕ, zero, suc, ◌+◌, ◌-◌, ◌^◌, ◌<◌, ◌≤◌, ◌⊎◌, ◌||◌, ◌&&◌, ◌==◌, inl, inr, min, nat_le, Bool, true, false, Option, Some, None, IfNone, IfSome, List, slice_index, refl, subst, sym, ap, ◌∙◌, arith, below_more}
use Rattle.std.proofs.lemmas.Bool.{cases_lt}
use Rattle.std.specs.Char.{is_ascii_alphanumeric}
use Rattle.lryacc.specs.declared.rust_code.Before.{Before}
use Rattle.lryacc.specs.declared.rust_code.Before.TheVariants as before
use Rattle.lryacc.specs.declared.rust_code.Half.{Half}
use Rattle.lryacc.specs.declared.rust_code.Half.TheVariants as half
use Rattle.lryacc.specs.declared.rust_code.Piece.TheVariants as piece
use Rattle.lryacc.specs.declared.rust_code.RustReader.{RustReader}
use Rattle.lryacc.specs.declared.rust_code.Within.{Within}
use Rattle.lryacc.specs.declared.rust_code.Within.TheVariants as within
use Rattle.lryacc.specs.Comments.{IsPair}
use Rattle.lryacc.specs.RustCode.{AreComments, AreInString, AreMarks, IsEscapedCharacter, IsOther, IsPlainCharacter, IsRaw, IsRawEnd, IsRawName, IsRawPrefix, IsRustCode, IsRustLine, IsRustWord, IsWordRun, goes_on, is_word_byte}
use Rattle.lryacc.specs.RustCodeRead.{AreBehindByte, AreCommentsUpTo, Begins, IsBehind, IsBehindByte, IsHalf, IsInRaw, IsInRawEnd, IsRawUpTo, IsRustCodeUpTo, IsWithin, LeadsOn, Settles, Stays, Takes, TakesByte}

-- ---- bytes

not-at : (text : List ℕ) (at byte other : ℕ) → slice_index text at ≡ byte → byte ≢ other → slice_index text at ≢ other
not-at text at byte other is apart = λ e. apart (sym is ∙ e)

class-at : (class : ℕ → Bool) (value : Bool) (text : List ℕ) (at byte : ℕ) → slice_index text at ≡ byte
    → class byte ≡ value → class (slice_index text at) ≡ value
class-at class value text at byte is h = subst (λ b. class b ≡ value) (sym is) h

at-place : (text : List ℕ) (at k byte : ℕ) → k ≡ at → slice_index text at ≡ byte → slice_index text k ≡ byte
at-place text at k byte e is = subst (λ i. slice_index text i ≡ byte) (sym e) is

or-right : (a b : Bool) → b ≡ true → (a || b) ≡ true
or-right true b h = refl
or-right false b h = h

and-left : (a b : Bool) → (a && b) ≡ true → a ≡ true
and-left true b h = refl
and-left false b h = h

-- a byte that goes on a character is one of a word
goes_on-word : (byte : ℕ) → goes_on byte ≡ true → is_word_byte byte ≡ true
goes_on-word byte h =
    or-right (is_ascii_alphanumeric byte) (byte == 95 || nat_le 128 byte)
    (or-right (byte == 95) (nat_le 128 byte) (and-left (nat_le 128 byte) (nat_le byte 191) h))

differ : (class : ℕ → Bool) (a b : ℕ) → class a ≡ true → class b ≡ false → a ≢ b
differ class a b one other = λ e.
    let h : class b ≡ true = subst (λ x. class x ≡ true) e one in
    absurd (cc)

-- ---- words

run-none : (text : List ℕ) (at : ℕ) → is_word_byte (slice_index text at) ≡ false → IsWordRun text at at
run-none text at h = record { ordered = omega arith; each = λ k low high. absurd (omega arith); ends = h }

run-behind : (text : List ℕ) (start at end : ℕ) → start ≤ at
    → ((k : ℕ) → k < at → start ≤ k → is_word_byte (slice_index text k) ≡ true) → IsWordRun text at end
    → IsWordRun text start end
run-behind text start at end order before run =
    record {
      ordered = omega (arith, run.ordered);
      each = λ k low high.
          elim (cases_lt k at) [ inl less ↦ before k less high | inr more ↦ run.each k low more ];
      ends = run.ends;
    }

run-more : (text : List ℕ) (at end : ℕ) → is_word_byte (slice_index text at) ≡ true → IsWordRun text (at + 1) end
    → IsWordRun text at end
run-more text at end here run =
    run-behind text at (at + 1) end (omega arith)
    (λ k low high. let e : k ≡ at = omega arith in subst (λ i. is_word_byte (slice_index text i) ≡ true) (sym e) here) run

prefix-word : (text : List ℕ) (start behind : ℕ) → IsRawPrefix text start behind → (k : ℕ) → k < behind → start ≤ k
    → is_word_byte (slice_index text k) ≡ true
prefix-word text start behind is k low high =
    elim is [
      | inl one ↦
          let e : k ≡ start = omega (arith, one.0) in
          class-at is_word_byte true text k 114 (at-place text start k 114 e one.1) refl
      | inr two ↦
          elim (cases_lt start k) [
            | inl second ↦
                let e : k ≡ start + 1 = omega (arith, two.0) in
                class-at is_word_byte true text k 114 (at-place text (start + 1) k 114 e two.1) refl
            | inr first ↦
                let e : k ≡ start = omega arith in
                elim two.2 [
                  | inl b ↦ class-at is_word_byte true text k 98 (at-place text start k 98 e b) refl
                  | inr c ↦ class-at is_word_byte true text k 99 (at-place text start k 99 e c) refl
                ]
          ]
    ]

two-letters : (text : List ℕ) (at : ℕ) → slice_index text at ≡ 114
    → (slice_index text at ≡ 98) ⊎ (slice_index text at ≡ 99) → ⊥
two-letters text at r other = elim other [ inl b ↦ omega arith | inr c ↦ omega arith ]

prefix-one : (text : List ℕ) (start a b : ℕ) → IsRawPrefix text start a → IsRawPrefix text start b → a ≡ b
prefix-one text start a b one other =
    elim one [
      | inl short ↦
          elim other [
            | inl also ↦ omega (arith, short.0, also.0)
            | inr long ↦ absurd (two-letters text start short.1 long.2)
          ]
      | inr long ↦
          elim other [
            | inl short ↦ absurd (two-letters text start short.1 long.2)
            | inr also ↦ omega (arith, long.0, also.0)
          ]
    ]

prefix-behind : (text : List ℕ) (start behind : ℕ) → IsRawPrefix text start behind → start < behind
prefix-behind text start behind is = elim is [ inl one ↦ omega (arith, one.0) | inr two ↦ omega (arith, two.0) ]

-- behind the prefix of a raw string and `#`, where no quote stands, a word goes on
raw-run : (text : List ℕ) (from at depth marks : ℕ) → IsRawUpTo text from at depth marks
    → slice_index text at ≢ 34 → slice_index text at ≢ 35 → (end : ℕ) → IsWordRun text at end
    → IsRustCode text from end depth
raw-run text from at depth zero up no_quote no_mark end run =
    let here : at ≡ up.behind = omega (arith, up.at_is) in
    let some = prefix-behind text up.start up.behind up.prefix in
    let word : IsRustWord text up.start end =
    record {
      some = omega (arith, run.ordered);
      run =
          run-behind text up.start at end (omega arith)
          (λ k low high. prefix-word text up.start up.behind up.prefix k (omega arith) high) run;
      no_prefix = λ is.
          let e : end ≡ at = prefix-one text up.start end up.behind is up.prefix ∙ sym here in
          (subst (λ i. slice_index text i ≢ 34) (sym e) no_quote, subst (λ i. slice_index text i ≢ 35) (sym e) no_mark);
    } in
    IsRustCode.word up.code word
raw-run text from at depth (suc marks) up no_quote no_mark end run =
    let name : IsRawName text up.start end =
    record {
      behind = up.behind;
      marks = suc marks;
      prefix = up.prefix;
      some = omega arith;
      are = up.are;
      no_quote = subst (λ i. slice_index text i ≢ 34) up.at_is no_quote;
      no_mark = subst (λ i. slice_index text i ≢ 35) up.at_is no_mark;
      rest = subst (λ i. IsWordRun text i end) up.at_is run;
    } in
    IsRustCode.raw_name up.code name

-- behind a letter that may begin such a prefix, where no `r` stands, a word goes on
letter-run : (text : List ℕ) (from at depth : ℕ)
    → IsBehindByte (λ byte. (byte ≡ 98) ⊎ (byte ≡ 99)) text from at depth → slice_index text at ≢ 114 → (end : ℕ)
    → IsWordRun text at end → IsRustCode text from end depth
letter-run text from at depth up no_r end run =
    let last : ℕ = up.0 in
    let here : at ≡ last + 1 = up.1 in
    let letter : is_word_byte (slice_index text last) ≡ true = elim up.3 [
      | inl b ↦ class-at is_word_byte true text last 98 b refl
      | inr c ↦ class-at is_word_byte true text last 99 c refl
    ] in
    let word : IsRustWord text last end =
    record {
      some = omega (arith, run.ordered);
      run = run-more text last end letter (subst (λ i. IsWordRun text i end) here run);
      no_prefix = λ is.
          elim is [
            | inl one ↦ absurd (two-letters text last one.1 up.3)
            | inr two ↦ absurd (no_r (ap (λ i. slice_index text i) here ∙ two.1))
          ];
    } in
    IsRustCode.word up.2 word

-- ---- code itself

other-at : (text : List ℕ) (at byte : ℕ) → slice_index text at ≡ byte → is_word_byte byte ≡ false → byte ≢ 34
    → byte ≢ 39 → byte ≢ 123 → byte ≢ 125 → ¬ IsPair text at 47 47 → ¬ IsPair text at 47 42 → IsOther text at
other-at text at byte is no_word no_text no_quote no_opening no_closing no_line no_block =
    record {
      no_word = class-at is_word_byte false text at byte is no_word;
      no_text = not-at text at byte 34 is no_text;
      no_quote = not-at text at byte 39 is no_quote;
      no_opening = not-at text at byte 123 is no_opening;
      no_closing = not-at text at byte 125 is no_closing;
      no_line = no_line;
      no_block = no_block;
    }

-- a byte that goes on nothing stands behind code
settled : (text : List ℕ) (from at depth byte : ℕ) (kind : Before) → slice_index text at ≡ byte → Settles kind byte
    → IsBehind text from at depth kind → IsRustCode text from at depth
settled text from at depth byte before.Nothing is settles up = up
settled text from at depth byte before.Slash is settles up =
    let here : at ≡ up.0 + 1 = up.1 in
    let next : slice_index text (up.0 + 1) ≡ byte = subst (λ i. slice_index text i ≡ byte) here is in
    let other : IsOther text up.0 =
    other-at text up.0 47 up.3 refl (λ e. omega arith) (λ e. omega arith) (λ e. omega arith) (λ e. omega arith)
    (λ pair. settles.0 (sym next ∙ pair.other)) (λ pair. settles.1 (sym next ∙ pair.other)) in
    subst (λ i. IsRustCode text from i depth) (sym here) (IsRustCode.other up.2 other)
settled text from at depth byte before.Word is settles up =
    up at (run-none text at (class-at is_word_byte false text at byte is settles))
settled text from at depth byte before.Prefix is settles up =
    let none = class-at is_word_byte false text at byte is settles in
    letter-run text from at depth up (λ e. differ is_word_byte 114 (slice_index text at) refl none (sym e)) at
    (run-none text at none)
settled text from at depth byte (before.Raw marks) is settles up =
    raw-run text from at depth marks up (not-at text at byte 34 is settles.0) (not-at text at byte 35 is settles.1) at
    (run-none text at (class-at is_word_byte false text at byte is settles.2))

pub byte-taken : (at byte : ℕ) (kind : Before) (reader : RustReader) (found : Option RustReader) → Settles kind byte
    → TakesByte at byte before.Nothing reader found → TakesByte at byte kind reader found
byte-taken at byte kind reader found settles takes = λ text from is up.
    takes text from is (record { is = settled text from at reader.depth byte kind is settles up.is; depth = up.depth })

-- ---- what goes on

pub slash-block : (byte : ℕ) → byte ≡ 42
    → LeadsOn byte (within.Code before.Slash) (within.Piece (piece.Block 1 half.Nothing))
slash-block byte e = λ text from at depth fits is up.
    let here : at ≡ up.0 + 1 = up.1 in
    let end : up.0 + 2 ≡ at + 1 = omega arith in
    let pair : IsPair text up.0 47 42 = record { one = up.3; other = subst (λ i. slice_index text i ≡ 42) here (is ∙ e) } in (
      up.0,
      up.2,
      omega arith,
      omega arith,
      subst (λ i. AreComments text up.0 i 1) end (AreComments.begins pair),
    )

pub word-on : (byte : ℕ) → is_word_byte byte ≡ true
    → LeadsOn byte (within.Code before.Word) (within.Code before.Word)
word-on byte word = λ text from at depth fits is up. λ end run.
    up end (run-more text at end (class-at is_word_byte true text at byte is word) run)

pub prefix-raw : (byte : ℕ) → byte ≡ 114
    → LeadsOn byte (within.Code before.Prefix) (within.Code (before.Raw 0))
prefix-raw byte e = λ text from at depth fits is up.
    let here : at ≡ up.0 + 1 = up.1 in
    record {
      start = up.0;
      behind = at + 1;
      code = up.2;
      prefix = inr (omega arith, subst (λ i. slice_index text i ≡ 114) here (is ∙ e), up.3);
      are = λ k low. absurd (omega arith);
      at_is = omega arith;
    }

pub prefix-on : (byte : ℕ) → byte ≢ 114 → is_word_byte byte ≡ true
    → LeadsOn byte (within.Code before.Prefix) (within.Code before.Word)
prefix-on byte no_r word = λ text from at depth fits is up. λ end run.
    letter-run text from at depth up (not-at text at byte 114 is no_r) end
    (run-more text at end (class-at is_word_byte true text at byte is word) run)

pub raw-on : (marks byte : ℕ) → byte ≢ 34 → byte ≢ 35 → is_word_byte byte ≡ true
    → LeadsOn byte (within.Code (before.Raw marks)) (within.Code before.Word)
raw-on marks byte no_quote no_mark word = λ text from at depth fits is up. λ end run.
    raw-run text from at depth marks up (not-at text at byte 34 is no_quote) (not-at text at byte 35 is no_mark) end
    (run-more text at end (class-at is_word_byte true text at byte is word) run)

-- ---- what begins

pub begun : (byte : ℕ) (kind : Before) → Begins byte kind → byte ≢ 34 → byte ≢ 39 → byte ≢ 123 → byte ≢ 125
    → LeadsOn byte (within.Code before.Nothing) (within.Code kind)
begun byte before.Nothing begins no_text no_quote no_opening no_closing = λ text from at depth fits is up.
    let no_slash = not-at text at byte 47 is begins.0 in
    IsRustCode.other up
    (other-at text at byte is begins.1 no_text no_quote no_opening no_closing (λ pair. no_slash pair.one)
    (λ pair. no_slash pair.one))
begun byte before.Slash begins no_text no_quote no_opening no_closing = λ text from at depth fits is up.
    (at, refl, up, is ∙ begins)
begun byte before.Word begins no_text no_quote no_opening no_closing = λ text from at depth fits is up. λ end run.
    let here = class-at is_word_byte true text at byte is begins.0 in
    let word : IsRustWord text at end =
    record {
      some = omega (arith, run.ordered);
      run = run-more text at end here run;
      no_prefix = λ prefix.
          elim prefix [
            | inl one ↦ absurd (not-at text at byte 114 is begins.1 one.1)
            | inr two ↦
                elim two.2 [
                  | inl b ↦ absurd (not-at text at byte 98 is begins.2 b)
                  | inr c ↦ absurd (not-at text at byte 99 is begins.3 c)
                ]
          ];
    } in
    IsRustCode.word up word
begun byte before.Prefix begins no_text no_quote no_opening no_closing = λ text from at depth fits is up. (
  at,
  refl,
  up,
  elim begins [ inl b ↦ inl (is ∙ b) | inr c ↦ inr (is ∙ c) ],
)
begun byte (before.Raw marks) begins no_text no_quote no_opening no_closing = λ text from at depth fits is up.
    record {
      start = at;
      behind = at + 1;
      code = up;
      prefix = inl (refl, is ∙ begins.1);
      are = λ k low. absurd (omega (arith, begins.0));
      at_is = omega (arith, begins.0);
    }

-- ---- readers

pub goes_on-with : (text : List ℕ) (from at byte opened : ℕ) (reader : RustReader) (old new : Within)
    → at < 2 ^ 64 - 1 → slice_index text at ≡ byte → LeadsOn byte old new
    → IsRustCodeUpTo text from at (record reader { within = old })
    → IsRustCodeUpTo text from (at + 1) (record reader { within = new; opened = opened })
goes_on-with text from at byte opened reader old new fits is leads up =
    record { is = leads text from at reader.depth fits is up.is; depth = omega (arith, up.depth) }

-- a brace opens
pub brace-opens : (text : List ℕ) (from at : ℕ) (reader : RustReader) → at < 2 ^ 64 - 1 → slice_index text at ≡ 123
    → IsRustCodeUpTo text from at (record reader { within = within.Code before.Nothing })
    → IsRustCodeUpTo text from (at + 1)
    (record reader { within = within.Code before.Nothing; depth = min (reader.depth + 1) (2 ^ 64 - 1) })
brace-opens text from at reader fits brace up =
    let deep : reader.depth ≤ at = up.depth in
    let count : min (reader.depth + 1) (2 ^ 64 - 1) ≡ reader.depth + 1 = omega arith in
    record {
      is = subst (λ n. IsRustCode text from (at + 1) n) (sym count) (IsRustCode.opens up.is brace);
      depth = omega arith;
    }

-- a brace closes, or ends the code
pub brace-closes : (text : List ℕ) (from at : ℕ) (reader : RustReader) (found : Option RustReader)
    → slice_index text at ≡ 125 → IsRustCodeUpTo text from at (record reader { within = within.Code before.Nothing })
    → IfNone found (reader.depth ≡ 0) → IfSome found (λ next. next.within ≡ within.Code before.Nothing)
    → IfSome found (λ next. reader.depth ≡ next.depth + 1) → Takes text from at found
brace-closes text from at reader None brace up none code depth =
    record { last = at; code = subst (λ n. IsRustCode text from at n) none up.is; brace = brace; behind = refl }
brace-closes text from at reader (Some next) brace up none code depth =
    let deep : reader.depth ≤ at = up.depth in
    let closed : IsRustCode text from (at + 1) next.depth =
    IsRustCode.closes (subst (λ n. IsRustCode text from at n) depth up.is) brace in
    record { is = subst (IsWithin text from (at + 1) next.depth) (sym code) closed; depth = omega arith }

-- ---- strings

pub text-takes : (byte : ℕ) → LeadsOn byte (within.Piece (piece.Text true)) (within.Piece (piece.Text false))
text-takes byte = λ text from at depth fits is up.
    let had = up.3 in
    let end : had.0 + 2 ≡ at + 1 = omega (arith, had.1) in
    (up.0, up.1, up.2, subst (AreInString text (up.0 + 1)) end (AreInString.escaped had.2 had.3))

pub text-closes : (byte : ℕ) → byte ≡ 34 → LeadsOn byte (within.Piece (piece.Text false)) (within.Code before.Nothing)
text-closes byte e = λ text from at depth fits is up.
    IsRustCode.string up.1 (record { opens = up.2; between = up.3; closes = is ∙ e })

pub text-on : (byte : ℕ) → byte ≢ 34 → byte ≢ 92
    → LeadsOn byte (within.Piece (piece.Text false)) (within.Piece (piece.Text false))
text-on byte no_quote no_backslash = λ text from at depth fits is up. (
  up.0,
  up.1,
  up.2,
  AreInString.one up.3 (not-at text at byte 34 is no_quote) (not-at text at byte 92 is no_backslash),
)

-- ---- raw strings

raw-code : (text : List ℕ) (from last depth marks end : ℕ) → IsInRaw text from last depth marks
    → IsRawEnd text last marks → last + 1 + marks ≡ end → IsRustCode text from end depth
raw-code text from last depth marks end up ends e =
    let raw : IsRaw text up.start last marks =
    record { quote = up.quote; begins = up.begins; behind = up.behind; first = up.first; ends = ends } in
    subst (λ i. IsRustCode text from i depth) e (IsRustCode.raw up.code raw)

pub raw-closes : (marks byte : ℕ) → byte ≡ 34 → marks ≡ 0
    → LeadsOn byte (within.Piece (piece.Raw marks)) (within.Code before.Nothing)
raw-closes marks byte e none = λ text from at depth fits is up.
    let end : at + 1 + marks ≡ at + 1 = omega arith in
    let ends : IsRawEnd text at marks = record { quote = is ∙ e; are = λ k low. absurd (omega arith) } in
    raw-code text from at depth marks (at + 1) up ends end

-- a quote with too few `#` ends no raw string
raw_end-fails : (text : List ℕ) (from at depth marks left : ℕ) → IsInRawEnd text from at depth marks left
    → slice_index text at ≢ 35 → IsInRaw text from at depth marks
raw_end-fails text from at depth marks left up no_mark =
    let here : at ≡ up.last + 1 + up.had = up.at_is in
    record {
      start = up.before.start;
      quote = up.before.quote;
      code = up.before.code;
      begins = up.before.begins;
      behind = omega (arith, up.before.behind);
      first = λ k low high ends.
          elim (cases_lt k up.last) [
            | inl below ↦ up.before.first k below high ends
            | inr above ↦
                elim (cases_lt up.last k) [
                  | inl behind ↦
                      let n : ℕ = k - (up.last + 1) in
                      let e : up.last + 1 + n ≡ k = omega arith in
                      let mark : slice_index text k ≡ 35 =
                      subst (λ i. slice_index text i ≡ 35) e (up.are n (omega arith)) in
                      let quote : slice_index text k ≡ 34 = ends.quote in
                      omega arith
                  | inr equal ↦
                      let e : k ≡ up.last = omega arith in
                      let there : up.last + 1 + up.had ≡ at = sym here in
                      let in_order : k + 1 + up.had ≡ at = omega arith in
                      no_mark (subst (λ i. slice_index text i ≡ 35) in_order (ends.are up.had (omega (arith, up.all, up.some))))
                ]
          ];
    }

pub raw_end-other : (marks left byte : ℕ) (new : Within) → byte ≢ 35 → LeadsOn byte (within.Piece (piece.Raw marks)) new
    → LeadsOn byte (within.Piece (piece.RawEnd marks left)) new
raw_end-other marks left byte new no_mark leads = λ text from at depth fits is up.
    leads text from at depth fits is (raw_end-fails text from at depth marks left up (not-at text at byte 35 is no_mark))

marks-more : (text : List ℕ) (from at depth marks left : ℕ) (up : IsInRawEnd text from at depth marks left)
    → slice_index text at ≡ 35 → AreMarks text (up.last + 1) (up.had + 1)
marks-more text from at depth marks left up is =
    below_more (λ k. slice_index text (up.last + 1 + k) ≡ 35) up.had up.are
    (subst (λ i. slice_index text i ≡ 35) up.at_is is)

pub raw_end-closes : (marks left byte : ℕ) → byte ≡ 35 → left ≤ 1
    → LeadsOn byte (within.Piece (piece.RawEnd marks left)) (within.Code before.Nothing)
raw_end-closes marks left byte e few = λ text from at depth fits is up.
    let count : up.had + 1 ≡ marks = omega (arith, up.all, up.some) in
    let end : up.last + 1 + marks ≡ at + 1 = omega (arith, up.at_is) in
    let ends : IsRawEnd text up.last marks =
    record {
      quote = up.is;
      are = subst (AreMarks text (up.last + 1)) count (marks-more text from at depth marks left up (is ∙ e));
    } in
    raw-code text from up.last depth marks (at + 1) up.before ends end

pub raw_end-mark : (marks left byte : ℕ) → byte ≡ 35 → 1 < left
    → LeadsOn byte (within.Piece (piece.RawEnd marks left)) (within.Piece (piece.RawEnd marks (left - 1)))
raw_end-mark marks left byte e more = λ text from at depth fits is up.
    record {
      last = up.last;
      had = up.had + 1;
      before = up.before;
      is = up.is;
      are = marks-more text from at depth marks left up (is ∙ e);
      at_is = omega (arith, up.at_is);
      all = omega (arith, up.all);
      some = omega arith;
    }

-- ---- characters and lifetimes

-- what is no character is a lifetime
pub name-stays : (byte : ℕ) → byte ≢ 39 → goes_on byte ≡ false
    → Stays byte (within.Piece (piece.Quoted true)) (within.Code before.Word)
name-stays byte no_quote ends = λ text from at depth is up. λ end run.
    IsRustCode.lifetime up.code
    (record {
      opens = up.opens;
      word = up.word refl;
      no_digit = up.no_digit refl;
      run =
          run-behind text (up.start + 1) at end (omega (arith, up.behind))
          (λ k low high.
          elim (cases_lt (up.start + 1) k) [
            | inl behind ↦ goes_on-word (slice_index text k) (up.on k low (omega arith))
            | inr first ↦
                let e : k ≡ up.start + 1 = omega arith in
                subst (λ i. is_word_byte (slice_index text i) ≡ true) (sym e) (up.word refl)
          ]) run;
      no_character = λ last character.
          elim (cases_lt last at) [
            | inl below ↦
                differ goes_on (slice_index text last) 39 (up.on last below character.behind) refl character.closes
            | inr above ↦
                elim (cases_lt at last) [
                  | inl behind ↦
                      differ goes_on (slice_index text at) byte (character.on at behind up.behind) ends is
                  | inr equal ↦
                      let e : last ≡ at = omega arith in
                      not-at text at byte 39 is no_quote (subst (λ i. slice_index text i ≡ 39) e character.closes)
                ]
          ];
    })

pub quoted-closes : (byte : ℕ) (name : Bool) → byte ≡ 39
    → LeadsOn byte (within.Piece (piece.Quoted name)) (within.Code before.Nothing)
quoted-closes byte name e = λ text from at depth fits is up.
    let character : IsPlainCharacter text up.start at =
    record {
      opens = up.opens;
      no_quote = up.no_quote;
      no_feed = up.no_feed;
      no_backslash = up.no_backslash;
      behind = up.behind;
      on = up.on;
      closes = is ∙ e;
    } in
    IsRustCode.plain up.code character

pub escape-closes : (byte : ℕ) → byte ≡ 39
    → LeadsOn byte (within.Piece (piece.Escape false)) (within.Code before.Nothing)
escape-closes byte e = λ text from at depth fits is up.
    let character : IsEscapedCharacter text up.start at =
    record {
      opens = up.opens;
      backslash = up.backslash;
      no_feed = up.no_feed;
      behind = up.behind;
      each = up.each;
      closes = is ∙ e;
    } in
    IsRustCode.escape up.code character

-- ---- comments

pub line-ends : (byte : ℕ) → byte ≡ 10 → LeadsOn byte (within.Piece piece.Line) (within.Code before.Nothing)
line-ends byte e = λ text from at depth fits is up.
    let line : IsRustLine text up.start at =
    record { opens = up.opens; behind = up.behind; first = up.first; feed = is ∙ e } in
    IsRustCode.line up.code line

half-begins : (text : List ℕ) (start at levels byte : ℕ) (kind : Half) → slice_index text at ≡ byte → IsHalf byte kind
    → AreComments text start at levels → AreCommentsUpTo text start (at + 1) levels kind
half-begins text start at levels byte half.Nothing is none up =
    AreComments.one up (λ pair. none.0 (sym is ∙ pair.one)) (λ pair. none.1 (sym is ∙ pair.one))
half-begins text start at levels byte half.Slash is slash up = (at, refl, up, is ∙ slash)
half-begins text start at levels byte half.Star is star up = (at, refl, up, is ∙ star)

star-alone : (text : List ℕ) (start at levels byte : ℕ) → slice_index text at ≡ byte → byte ≢ 47
    → AreBehindByte (λ byte. byte ≡ 42) text start at levels → AreComments text start at levels
star-alone text start at levels byte is no_slash up =
    let here : at ≡ up.0 + 1 = up.1 in
    let next : slice_index text (up.0 + 1) ≡ byte = subst (λ i. slice_index text i ≡ byte) here is in
    let star : slice_index text up.0 ≡ 42 = up.3 in
    subst (λ i. AreComments text start i levels) (sym here)
    (AreComments.one up.2 (λ pair. let slash : slice_index text up.0 ≡ 47 = pair.one in omega arith)
    (λ pair. no_slash (sym next ∙ pair.other)))

slash-alone : (text : List ℕ) (start at levels byte : ℕ) → slice_index text at ≡ byte → byte ≢ 42
    → AreBehindByte (λ byte. byte ≡ 47) text start at levels → AreComments text start at levels
slash-alone text start at levels byte is no_star up =
    let here : at ≡ up.0 + 1 = up.1 in
    let next : slice_index text (up.0 + 1) ≡ byte = subst (λ i. slice_index text i ≡ byte) here is in
    let slash : slice_index text up.0 ≡ 47 = up.3 in
    subst (λ i. AreComments text start i levels) (sym here)
    (AreComments.one up.2 (λ pair. no_star (sym next ∙ pair.other))
    (λ pair. let star : slice_index text up.0 ≡ 42 = pair.one in omega arith))

pub star-on : (levels byte : ℕ) (next : Half) → byte ≢ 47 → IsHalf byte next
    → LeadsOn byte (within.Piece (piece.Block levels half.Star)) (within.Piece (piece.Block levels next))
star-on levels byte next no_slash begins = λ text from at depth fits is up. (
  up.0,
  up.1,
  up.2,
  omega (arith, up.3),
  half-begins text up.0 at levels byte next is begins (star-alone text up.0 at levels byte is no_slash up.4),
)

pub slash-on : (levels byte : ℕ) (next : Half) → byte ≢ 42 → IsHalf byte next
    → LeadsOn byte (within.Piece (piece.Block levels half.Slash)) (within.Piece (piece.Block levels next))
slash-on levels byte next no_star begins = λ text from at depth fits is up. (
  up.0,
  up.1,
  up.2,
  omega (arith, up.3),
  half-begins text up.0 at levels byte next is begins (slash-alone text up.0 at levels byte is no_star up.4),
)

pub block-on : (levels byte : ℕ) (next : Half) → IsHalf byte next
    → LeadsOn byte (within.Piece (piece.Block levels half.Nothing)) (within.Piece (piece.Block levels next))
block-on levels byte next begins = λ text from at depth fits is up.
    (up.0, up.1, up.2, omega (arith, up.3), half-begins text up.0 at levels byte next is begins up.4)

mark-pair : (text : List ℕ) (at last first second : ℕ) → at ≡ last + 1 → slice_index text last ≡ first
    → slice_index text at ≡ second → IsPair text last first second
mark-pair text at last first second here one is =
    record { one = one; other = subst (λ i. slice_index text i ≡ second) here is }

pub block-opens : (levels byte : ℕ) → byte ≡ 42
    → LeadsOn byte (within.Piece (piece.Block levels half.Slash))
    (within.Piece (piece.Block (min (levels + 1) (2 ^ 64 - 1)) half.Nothing))
block-opens levels byte e = λ text from at depth fits is up.
    let had = up.4 in
    let few : levels ≤ at = up.3 in
    let here : at ≡ had.0 + 1 = had.1 in
    let end : had.0 + 2 ≡ at + 1 = omega arith in
    let count : min (levels + 1) (2 ^ 64 - 1) ≡ levels + 1 = omega arith in
    let more : AreComments text up.0 (at + 1) (levels + 1) =
    subst (λ i. AreComments text up.0 i (levels + 1)) end
    (AreComments.opens had.2 (mark-pair text at had.0 47 42 here had.3 (is ∙ e))) in
    (up.0, up.1, omega arith, omega arith, subst (AreComments text up.0 (at + 1)) (sym count) more)

pub block-closes : (levels byte : ℕ) → byte ≡ 47 → levels ≤ 1
    → LeadsOn byte (within.Piece (piece.Block levels half.Star)) (within.Code before.Nothing)
block-closes levels byte e few = λ text from at depth fits is up.
    let had = up.4 in
    let some : 0 < levels = up.2 in
    let here : at ≡ had.0 + 1 = had.1 in
    let end : had.0 + 2 ≡ at + 1 = omega arith in
    let one : levels ≡ 1 = omega arith in
    subst (λ i. IsRustCode text from i depth) end
    (IsRustCode.comments up.1
    (record {
      between = subst (AreComments text up.0 had.0) one had.2;
      closes = mark-pair text at had.0 42 47 here had.3 (is ∙ e);
    }))

pub block-closes_inner : (levels byte : ℕ) → byte ≡ 47 → 1 < levels
    → LeadsOn byte (within.Piece (piece.Block levels half.Star)) (within.Piece (piece.Block (levels - 1) half.Nothing))
block-closes_inner levels byte e more = λ text from at depth fits is up.
    let had = up.4 in
    let few : levels ≤ at = up.3 in
    let here : at ≡ had.0 + 1 = had.1 in
    let end : had.0 + 2 ≡ at + 1 = omega arith in
    let one : levels ≡ (levels - 1) + 1 = omega arith in
    let comments : AreComments text up.0 had.0 ((levels - 1) + 1) = subst (AreComments text up.0 had.0) one had.2 in
    let some : 0 < levels - 1 = omega arith in
    let rest : AreComments text up.0 (at + 1) (levels - 1) =
    subst (λ i. AreComments text up.0 i (levels - 1)) end
    (AreComments.closes comments some (mark-pair text at had.0 42 47 here had.3 (is ∙ e))) in
    (up.0, up.1, some, omega arith, rest)
