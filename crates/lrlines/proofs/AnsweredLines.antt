-- the whole lines of bytes are answered, and bytes go on where these ended
use Rattle.std.proofs.Common.{◌≡◌, ◌≢◌, ℕ, ◌+◌, ◌<◌, ◌∙◌, sym, ap, subst, List, [], ◌∷◌, ◌++◌, length, take, Option, length-append, lit<, arith}
use Rattle.std.proofs.Math.Seq.{take-append-add}
use Rattle.std.proofs.lemmas.Grind.{flat_map-append}
use Rattle.std.proofs.lemmas.List.{append-nil}
use Rattle.std.proofs.lemmas.List.Elements.{All-append}
use Rattle.std.specs.Io.KnownBytes.{Appends}
use Rattle.std.specs.Str.Lines.{strip_carriage_return}
use Rattle.lrspec.specs.texts.Devices.{AppendsBeginning, AppendsFirstAnswers}
use Rattle.lrspec.specs.texts.Lines.{nonempty, whole_lines, rest_of, lines, HasNoLineFeed, answers_to, answer_text}
use Rattle.lrspec.proofs.texts.LineFacts.{whole_lines-append, rest_of-append, lines-append, rest_without_feed, no_whole_line, whole_lines_at_feed, rest_at_feed}
use Rattle.lrlines.proofs.KnownBytes.{Appends-append, beginning_behind}

-- ---- bytes without a line feed

pub no_feed_in_both : (a b : List ℕ) → HasNoLineFeed a → HasNoLineFeed b → HasNoLineFeed (a ++ b)
no_feed_in_both a b u v = All-append (λ c. c ≢ 10) a b u v

some_rest : (bytes : List ℕ) → 0 < length bytes → 0 < length (nonempty (bytes ∷ []))
some_rest [] l = l
some_rest (b ∷ bytes) l = lit< tt

-- they are a line, if there are any
pub some_line_of_rest : (bytes : List ℕ) → HasNoLineFeed bytes → 0 < length bytes → 0 < length (lines bytes)
some_line_of_rest bytes u l =
    let lines_are : nonempty (bytes ∷ []) ≡ lines bytes =
    ap (λ ls. ls ++ nonempty (bytes ∷ [])) (sym (no_whole_line bytes u))
    ∙ ap (λ r. whole_lines bytes ++ nonempty (r ∷ [])) (sym (rest_without_feed bytes u)) in
    subst (λ ls. 0 < length ls) lines_are (some_rest bytes l)

-- they are a line in front of those behind a line feed
pub lines_at_feed : (a b : List ℕ) → HasNoLineFeed a → lines (a ++ 10 ∷ b) ≡ strip_carriage_return a ∷ lines b
lines_at_feed a b u =
    ap (λ ls. ls ++ nonempty (rest_of (a ++ 10 ∷ b) ∷ [])) (whole_lines_at_feed a b u)
    ∙ ap (λ r. strip_carriage_return a ∷ (whole_lines b ++ nonempty (r ∷ []))) (rest_at_feed a b u)

-- ---- the whole lines of the bytes `front` are answered, and `line` is their rest
pub record HasAnswered (answer : List ℕ → List ℕ) (old new : Option (List ℕ)) (front line : List ℕ) : Type 0 where
  pub rest_is : line ≡ rest_of front
  pub no_feed : HasNoLineFeed line
  pub written : Appends old new (answers_to answer (whole_lines front))

module _ (answer : List ℕ → List ℕ) where
  pub answers_to-append : (ls ms : List (List ℕ))
      → answers_to answer (ls ++ ms) ≡ answers_to answer ls ++ answers_to answer ms
  answers_to-append ls ms = flat_map-append (λ line. answer line ++ 10 ∷ []) ls ms

  -- bytes and a line feed are answered: nothing is left
  pub one_line : (old new : Option (List ℕ)) (bytes : List ℕ) → HasNoLineFeed bytes
      → Appends old new (answer (strip_carriage_return bytes) ++ 10 ∷ [])
      → HasAnswered answer old new (bytes ++ 10 ∷ []) []
  one_line old new bytes u a = record {
    rest_is = sym (rest_at_feed bytes [] u);
    no_feed = λ k d l. absurd (omega arith);
    written =
        subst (λ t. Appends old new t)
        (sym (append-nil (answer (strip_carriage_return bytes) ++ 10 ∷ []))
        ∙ ap (answers_to answer) (sym (whole_lines_at_feed bytes [] u)))
        a;
  }

  -- ---- more bytes behind `front`

  module _ (old new newer : Option (List ℕ)) (front line more : List ℕ) where
    -- the lines: those that are answered, and the others
    lines_left : HasAnswered answer old new front line
        → lines (front ++ more) ≡ whole_lines front ++ lines (line ++ more)
    lines_left h = lines-append front more ∙ ap (λ l. whole_lines front ++ lines (l ++ more)) (sym h.rest_is)

    -- the lines that end in them are answered too
    pub HasAnswered-append : (later : List ℕ) → HasAnswered answer old new front line
        → HasAnswered answer new newer (line ++ more) later
        → HasAnswered answer old newer (front ++ more) later
    HasAnswered-append later g h = record {
      rest_is = h.rest_is ∙ ap (λ l. rest_of (l ++ more)) g.rest_is ∙ sym (rest_of-append front more);
      no_feed = h.no_feed;
      written =
          let lines_are : whole_lines front ++ whole_lines (line ++ more) ≡ whole_lines (front ++ more) =
          ap (λ l. whole_lines front ++ whole_lines (l ++ more)) g.rest_is
          ∙ sym (whole_lines-append front more) in
          subst (λ t. Appends old newer t)
          (sym (answers_to-append (whole_lines front) (whole_lines (line ++ more)))
          ∙ ap (answers_to answer) lines_are)
          (Appends-append old new newer _ _ g.written h.written);
    }

    -- they have no line feed: they are more of the rest
    pub HasAnswered-rest : HasAnswered answer old new front line → HasNoLineFeed more
        → Appends new newer [] → HasAnswered answer old newer (front ++ more) (line ++ more)
    HasAnswered-rest h u n =
        let both : HasNoLineFeed (line ++ more) = no_feed_in_both line more h.no_feed u in
        HasAnswered-append (line ++ more) h (record {
          rest_is = sym (rest_without_feed (line ++ more) both);
          no_feed = both;
          written =
              subst (λ ls. Appends new newer (answers_to answer ls)) (sym (no_whole_line (line ++ more) both)) n;
        })

    -- the writer failed at one of their lines
    pub begun_behind : HasAnswered answer old new front line
        → AppendsBeginning new newer (answer_text answer (line ++ more))
        → AppendsBeginning old newer (answer_text answer (front ++ more))
    begun_behind g h =
        let before = answers_to answer (whole_lines front) in
        let behind = answer_text answer (line ++ more) in
        beginning_behind old new newer before behind [] _ g.written h
        (ap (answers_to answer) (lines_left g)
        ∙ answers_to-append (whole_lines front) (lines (line ++ more))
        ∙ ap (λ t. before ++ t) (sym (append-nil behind)))

    -- want of memory at one of them
    pub first_behind : HasAnswered answer old new front line
        → AppendsFirstAnswers new newer answer (lines (line ++ more))
        → AppendsFirstAnswers old newer answer (lines (front ++ more))
    first_behind g (k, l, h) =
        let ls = whole_lines front in
        let ms = lines (line ++ more) in
        let e : lines (front ++ more) ≡ ls ++ ms = lines_left g in (
          length ls + k,
          omega (arith, ap length e, length-append ls ms),
          subst (λ t. Appends old newer t)
              (sym (answers_to-append ls (take k ms))
              ∙ ap (answers_to answer) (sym (take-append-add ls ms k) ∙ ap (take (length ls + k)) (sym e)))
              (Appends-append old new newer _ _ g.written h),
        )
