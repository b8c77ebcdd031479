-- the places that a search for line feeds finds
use Rattle.std.proofs.Common.{◌≡◌, ℕ, zero, suc, ◌+◌, ◌-◌, ◌<◌, ◌≤◌, List, ◌∷◌, length, take, slice_index, count_by, sym, ap, ◌∙◌, arith, le_refl, take_all}
use Rattle.std.proofs.lemmas.Bool.{cond_both}
use Rattle.std.proofs.lemmas.List.Sums.{count_by_more_yes, count_by_more_no}
use Rattle.memchr.specs.Find.{is_byte, Nowhere, Passes, places_from, places}
use Rattle.memchr.proofs.lemmas.CallerLemmas.{length-places}
use Rattle.memchr.proofs.lemmas.PlaceLemmas.{places_between-none}
use Rattle.lrdiagnostics.specs.Positions.{AreFeeds, is_feed}

-- how many line feeds stand before a place
abbrev before : List ℕ → ℕ → ℕ
before text at = count_by is_feed (take at text)

-- line feeds, of which the first one is the one after so many
abbrev AreFrom : List ℕ → ℕ → List ℕ → Type 0
AreFrom text n places = (k : ℕ) → k < length places → (before text (slice_index places k) ≡ n + k) × (before text (slice_index places k + 1) ≡ n + k + 1)

one_more : (text places : List ℕ) (at n : ℕ) → before text at ≡ n → before text (at + 1) ≡ n + 1 → AreFrom text (n + 1) places → AreFrom text n (at ∷ places)
one_more text places at n here behind others zero inside = (here ∙ omega arith, behind ∙ omega arith)
one_more text places at n here behind others (suc k) inside =
    let both = others k (omega arith) in
    (both.0 ∙ omega arith, both.1 ∙ omega arith)

found : (text : List ℕ) (at n : ℕ) → at + n ≤ length text → AreFrom text (before text at) (places_from (is_byte 10) text at n)
unfolding places_from
found text at zero fits = λ k inside. absurd (omega arith)
found text at (suc n) fits =
    let later = found text (at + 1) n (omega arith) in
    cond_both (is_feed (slice_index text at)) (at ∷ places_from (is_byte 10) text (at + 1) n) (places_from (is_byte 10) text (at + 1) n) (AreFrom text (before text at))
    (λ yes.
    let more = count_by_more_yes is_feed text at 0 (omega arith) yes in
    one_more text _ at (before text at) (omega arith) more (rw more at later))
    (λ no. rw (count_by_more_no is_feed text at 0 (omega arith) no) at later)

pub feeds_found : (text : List ℕ) → AreFeeds text (length text) (places (is_byte 10) text)
feeds_found text =
    let all = found text 0 (length text - 0) (omega arith) in
    record {
      all = length-places (is_byte 10) text ∙ ap (count_by is_feed) (sym (take_all (length text) text (le_refl (length text))));
      before = λ k inside. (all k inside).0 ∙ omega arith;
      through = λ k inside. (all k inside).1 ∙ omega arith;
    }

-- where a search finds none there are none
pub no_feed : (text : List ℕ) → Nowhere (Passes (is_byte 10) text) 0 (length text) → count_by is_feed text ≡ 0
no_feed text none = sym (length-places (is_byte 10) text) ∙ ap length (places_between-none (is_byte 10) text 0 (length text) (omega arith) none)
