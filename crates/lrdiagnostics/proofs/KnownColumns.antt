-- places of which the column is known: the beginnings of lines, and what follows one
use Rattle.std.proofs.Common.{◌≡◌, ℕ, zero, suc, ◌+◌, ◌-◌, ◌<◌, ◌≤◌, min, List, [], ◌∷◌, ◌++◌, length, take, drop, sym, ◌∙◌, ap, subst, arith, cond, refl, slice_index, add-one, length-append, length-drop, length-take, lit<, inl, inr}
use Rattle.std.proofs.Math.Seq.{take-append_seam}
use Rattle.std.proofs.lemmas.List.{take-take, take-append-drop, length-take-le, drop-take, drop-drop, get_or-drop, get_or-take, get_or_append_left}
use Rattle.std.proofs.lemmas.List.Sums.{sum_by_more, sum_by-take-drop}
use Rattle.std.proofs.lemmas.Bool.{cases_eq, ne_eqb}
use Rattle.std.proofs.lemmas.Str.{length-encode, len_utf8_bounds, encode_ascii}
use Rattle.std.specs.List.{count_by, fold}
use Rattle.std.specs.Str.{IsUtf8, StartsWithNoChar, chars}
use Rattle.std.specs.Prelude.{encode_utf8}
use Rattle.lrdiagnostics.specs.Positions.{is_feed, last_line, line_of, front_of, column_after, counted, EndsBefore}
use Rattle.lrdiagnostics.specs.KnownColumns.{IsKnown}
use Rattle.lrdiagnostics.proofs.CountedTexts.{behind_text, past, some_byte}
use Rattle.lrdiagnostics.proofs.Ends.{one_end}
use Rattle.lrdiagnostics.proofs.LineFeeds.{without_feed, behind_last}

-- the column of the beginning of a line
begins : (text : List ℕ) (start : ℕ) → start ≤ length text → ((end : ℕ) → start ≤ end → line_of text start ≡ line_of text end → front_of text end ≡ drop start (take end text)) → IsKnown text start 1
begins text start fits is = record {
  within = fits;
  goes_on = λ end counted behind low same one other. one_end one other (is end low same) refl;
}

-- the beginning of a file
pub at_first : (text : List ℕ) → IsKnown text 0 1
at_first text = begins text 0 (omega arith) (λ end low same. without_feed (take end text) (omega arith))

-- behind a line feed
pub behind_feed : (text : List ℕ) (place : ℕ) → place < length text → slice_index text place ≡ 10 → IsKnown text (place + 1) 1
behind_feed text place fits feed =
    let one : count_by is_feed (take (place + 1) text) ≡ count_by is_feed (take place text) + 1 = rw feed at (sum_by_more (λ b. cond (is_feed b) 1 0) text place 0 fits) in
    let known : IsKnown text (suc place) 1 = begins text (suc place) (omega arith) (λ end low same.
    let up_to = take-take place end text (omega arith) in
    let through = take-take (suc place) end text low in
    let parts = rw through at (sum_by-take-drop (λ b. cond (is_feed b) 1 0) (take end text) (suc place)) in
    let next : count_by is_feed (take (suc place) text) ≡ count_by is_feed (take place text) + 1 = rw (add-one place) at one in
    behind_last (take end text) place (rw (up_to, through) (omega arith)) (omega arith)) in
    rw (add-one place) known

-- a byte at which no character begins is no line feed
no_feed : (bs : List ℕ) (w : ℕ) → 0 < w → StartsWithNoChar (take w bs) → count_by is_feed (take 1 bs) ≡ 0
no_feed [] w some none = refl
no_feed (b ∷ bs) zero some none = absurd (omega arith)
no_feed (b ∷ bs) (suc w) some none = elim (cases_eq b 10) [
  | inl feed ↦ absurd (none 10 (take w bs) refl (rw feed (ap (λ front. front ++ take w bs) (sym (encode_ascii 10 (lit< tt))))))
  | inr other ↦ rw (ne_eqb b 10 other) refl
]

-- what follows a place of which the column is known
module _ (text : List ℕ) (at column w : ℕ) (known : IsKnown text at column) (more : at < length text) (wide : w ≡ min (length (drop at text)) 1024) where
  abbrev rest : ℕ → List ℕ
  rest end = drop at (take end text)

  -- so many bytes of it, as they stand before an end
  same_front : (n end : ℕ) → at + n ≤ end → take n (rest end) ≡ take n (drop at text)
  same_front n end low =
      let parts : at + (end - at) ≡ end = omega arith in
      let is : drop at (take end text) ≡ take (end - at) (drop at text) = rw parts at (drop-take at (end - at) text) in
      rw is (take-take n (end - at) (drop at text) (omega arith))

  onward :
      (n behind : ℕ) → at + n ≤ length text → count_by is_feed (take n (drop at text)) ≡ 0
      → ((end ends : ℕ) → at + n ≤ end → EndsBefore (drop n (rest end)) behind ends → EndsBefore (rest end) column ends)
      → IsKnown text (at + n) behind
  onward n behind fits none counts = record {
    within = fits;
    goes_on = λ end counted ends low same one other.
        let up_to = take-take at (at + n) text (omega arith) in
        let parts = rw (up_to, drop-take at n text) at (sum_by-take-drop (λ b. cond (is_feed b) 1 0) (take (at + n) text) at) in
        known.goes_on end counted ends (omega arith) (omega arith) one (counts end ends low (rw (drop-drop n at (take end text)) other));
  }

  -- behind text that follows
  pub behind_front :
      (front others : List ℕ) → front ++ others ≡ take w (drop at text) → IsUtf8 front → count_by is_feed front ≡ 0
      → IsKnown text (at + length front) (fold column_after column (chars front))
  behind_front front others whole utf8 none =
      let n = length front in
      let most : n ≤ length (take w (drop at text)) = omega (arith, ap length whole, length-append front others) in
      let within : n ≤ w = omega (arith, most, length-take-le w (drop at text) (omega arith)) in
      let is : take n (drop at text) ≡ front = sym (take-take n w (drop at text) within) ∙ subst (λ all. take n all ≡ front) whole (take-append_seam front others) in
      onward n (fold column_after column (chars front)) (omega (arith, length-drop at text)) (rw is none) (λ end ends low counts.
      let begins_so : take n (rest end) ≡ front = same_front n end low ∙ is in
      let parts : front ++ drop n (rest end) ≡ rest end = rw begins_so at (take-append-drop n (rest end)) in
      subst (λ all. EndsBefore all column ends) parts (behind_text front (drop n (rest end)) column ends utf8 counts))

  -- from a line feed of it on
  pub behind_feed_in :
      (front others : List ℕ) → front ++ others ≡ take w (drop at text)
      → (feed : ℕ) → feed < length front → slice_index front feed ≡ 10 → IsKnown text (at + feed + 1) 1
  behind_feed_in front others whole feed inside is =
      let most : length front ≤ length (take w (drop at text)) = omega (arith, ap length whole, length-append front others) in
      let here : slice_index text (at + feed) ≡ slice_index front feed =
      sym (get_or-drop at text feed 0) ∙ sym (get_or-take w (drop at text) feed 0 (omega (arith, length-take w (drop at text)))) ∙ ap (λ all. slice_index all feed) (sym whole)
      ∙ get_or_append_left front others 0 feed inside in
      behind_feed text (at + feed) (omega (arith, length-take w (drop at text), length-drop at text)) (here ∙ is)

  -- at which no character begins, if none does in so many bytes of it
  pub stays_stray : StartsWithNoChar (take w (drop at text)) → (end : ℕ) → StartsWithNoChar (rest end)
  stays_stray none end c more_bytes s e =
      let n = length (encode_utf8 c) in
      let few : n ≤ 4 = omega (arith, length-encode c, (len_utf8_bounds c).1) in
      let long : n ≤ length (rest end) = omega (arith, ap length e, length-append (encode_utf8 c) more_bytes) in
      let low : at + n ≤ end = omega (arith, some_byte c, length-encode c, length-drop at (take end text), length-take end text, long) in
      let front : take n (rest end) ≡ encode_utf8 c = subst (λ all. take n all ≡ encode_utf8 c) (sym e) (take-append_seam (encode_utf8 c) more_bytes) in
      let is : take n (take w (drop at text)) ≡ encode_utf8 c = take-take n w (drop at text) (omega (arith, length-drop at text, length-drop at (take end text), length-take end text)) ∙ sym (same_front n end low) ∙ front in
      none c (drop n (take w (drop at text))) s (sym (rw is at (take-append-drop n (take w (drop at text)))))

  -- behind a byte at which no character begins
  pub behind_stray : StartsWithNoChar (take w (drop at text)) → IsKnown text (at + 1) (counted (column + 1))
  behind_stray none =
      onward 1 (counted (column + 1)) (omega arith) (no_feed (drop at text) w (omega (arith, length-drop at text)) none) (λ end ends low counts.
      past (rest end) column ends (stays_stray none end) (omega (arith, length-drop at (take end text), length-take end text)) counts)

-- what is counted from the beginning of a line on
pub from_start :
    (text : List ℕ) (end start : ℕ) → drop start (take end text) ≡ front_of text end
    → (counted behind : ℕ) → EndsBefore (front_of text end) 1 counted → EndsBefore (drop start (take end text)) 1 behind → counted ≡ behind
from_start text end start is counted behind one other = one_end one other (sym is) refl

last_without_feed : (bs : List ℕ) → count_by is_feed (last_line bs) ≡ 0
last_without_feed [] = refl
last_without_feed (b ∷ bs) = elim (cases_eq (count_by is_feed (b ∷ bs)) 0) [
  | inl none ↦ rw none none
  | inr some ↦ rw (ne_eqb (count_by is_feed (b ∷ bs)) 0 some) (last_without_feed bs)
]

-- what is counted from a place on, between the beginning of a line and an end in it, of which the column is known
pub from_known :
    (text : List ℕ) (end start at column : ℕ) → IsKnown text at column → start ≤ at → at ≤ end → drop start (take end text) ≡ front_of text end
    → (counted behind : ℕ) → EndsBefore (front_of text end) 1 counted → EndsBefore (drop at (take end text)) column behind → counted ≡ behind
from_known text end start at column known low high is counted behind =
    let feeds : ℕ → ℕ = λ b. cond (is_feed b) 1 0 in
    let line = drop start (take end text) in
    let none : count_by is_feed line ≡ 0 = rw is (last_without_feed (take end text)) in
    let reach : start + (at - start) ≡ at = omega arith in
    let rest : drop (at - start) line ≡ drop at (take end text) = rw reach at (drop-drop (at - start) start (take end text)) in
    let of_line = rw rest at (sum_by-take-drop feeds line (at - start)) in
    let up_to = take-take at end text high in
    let of_text = rw up_to at (sum_by-take-drop feeds (take end text) at) in
    known.goes_on end counted behind high (omega arith)
