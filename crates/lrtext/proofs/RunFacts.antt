-- runs of bytes: where they end a text may be cut
use Rattle.std.proofs.Common.{◌≡◌, ℕ, zero, suc, ◌<◌, ◌≤◌, Bool, true, false, List, [], ◌∷◌, Some, length, take, drop, get_or, sym, ap, ◌∙◌, ◌++◌, subst, IsUtf8, IsTrue, refl, arith, add-one}
use Rattle.std.specs.List.{slice_get, list_all}
use Rattle.std.specs.Str.{IsCharBoundary}
use Rattle.std.specs.Char.{is_ascii_alphabetic}
use Rattle.std.proofs.lemmas.Bool.{and_from}
use Rattle.std.proofs.lemmas.Bool.Decides.{nat_tests}
use Rattle.std.proofs.lemmas.Str.{IsCharBoundary-start, IsCharBoundary-after_ascii}
use Rattle.std.proofs.lemmas.List.{take-append-drop}
use Rattle.lrspec.specs.texts.Lexemes.{is_no_line_feed, is_name_byte, may_be_quoted, goes_on}
use Rattle.lrtext.specs.declared.runs.Run.{Run}
use Rattle.lrtext.specs.declared.runs.Run.TheVariants as run
use Rattle.lrtext.specs.Runs.{passes, EndsByAscii}

-- a text may be cut behind its first byte, if that is ASCII
pub first_boundary : (bs : List ℕ) (b : ℕ) → IsUtf8 bs → Some b ≡ slice_get bs 0 → b < 128 → IsCharBoundary bs 1
first_boundary [] b utf8 e h = cc
first_boundary (d ∷ bs) b utf8 e h = let same : d ≡ b = cc in IsCharBoundary-after_ascii (d ∷ bs) 0 utf8 (omega arith) (omega arith)

-- a text may be cut before an ASCII byte
before_boundary : (bs : List ℕ) (n : ℕ) → n ≤ length bs → (n < length bs → get_or bs n 0 < 128) → IsCharBoundary bs n
before_boundary bs n within ascii = (within, λ h g. absurd (omega (arith, ascii h)))

-- a text may be cut behind ASCII bytes
behind_boundary : (bs : List ℕ) (n : ℕ) → IsUtf8 bs → n ≤ length bs → ((k : ℕ) → k < n → get_or bs k 0 < 128) → IsCharBoundary bs n
behind_boundary bs zero utf8 within ascii = IsCharBoundary-start bs utf8
behind_boundary bs (suc n) utf8 within ascii = subst (IsCharBoundary bs) (add-one n) (IsCharBoundary-after_ascii bs n utf8 (omega arith) (ascii n (omega arith)))

-- the bytes of names are ASCII
name_ascii : (b : ℕ) → is_name_byte b ≡ true → b < 128
name_ascii b h = grind (arith, nat_tests)

-- the bytes of words are ASCII
letter_ascii : (b : ℕ) → is_ascii_alphabetic b ≡ true → b < 128
letter_ascii b h = grind (arith, nat_tests)

-- the byte that ends a line is ASCII
line_feed_ascii : (b : ℕ) → is_no_line_feed b ≡ false → b < 128
line_feed_ascii b h = grind (arith, nat_tests)

-- the byte that ends a quoted run is ASCII
unquoted_ascii : (q b : ℕ) → q < 128 → may_be_quoted q b ≡ false → b < 128
unquoted_ascii q b small h = grind (arith, nat_tests)

-- a text may be cut behind a run
pub run_boundary : (r : Run) (bs : List ℕ) (n : ℕ) → EndsByAscii r → IsUtf8 bs → n ≤ length bs → ((k : ℕ) → k < n → passes r (get_or bs k 0) ≡ true) → (n < length bs → passes r (get_or bs n 0) ≡ false) → IsCharBoundary bs n
run_boundary run.Name bs n e utf8 within all stops = behind_boundary bs n utf8 within (λ k h. name_ascii _ (all k h))
run_boundary run.Word bs n e utf8 within all stops = behind_boundary bs n utf8 within (λ k h. letter_ascii _ (all k h))
run_boundary run.Line bs n e utf8 within all stops = before_boundary bs n within (λ h. line_feed_ascii _ (stops h))
run_boundary (run.Quoted q) bs n e utf8 within all stops = before_boundary bs n within (λ h. unquoted_ascii q _ e (stops h))

-- the bytes of a run are all of it
pub run_passes : (p : ℕ → Bool) (bs : List ℕ) (n : ℕ) → n ≤ length bs → ((k : ℕ) → k < n → p (get_or bs k 0) ≡ true) → IsTrue (list_all p (take n bs))
run_passes p bs zero within all = refl
run_passes p [] (suc n) within all = absurd (omega arith)
run_passes p (b ∷ bs) (suc n) within all = and_from (p b) (list_all p (take n bs)) (all 0 (omega arith)) (run_passes p bs n (omega arith) (λ k h. all (suc k) (omega arith)))

-- a run stops where it is cut
stops_there : (p : ℕ → Bool) (bs : List ℕ) (n : ℕ) → (n < length bs → p (get_or bs n 0) ≡ false) → goes_on p (drop n bs) ≡ false
stops_there p [] zero stops = refl
stops_there p [] (suc n) stops = refl
stops_there p (b ∷ bs) zero stops = stops (omega arith)
stops_there p (b ∷ bs) (suc n) stops = stops_there p bs n (λ h. stops (omega (arith, h)))

pub run_stops : (p : ℕ → Bool) (bs text behind : List ℕ) (n : ℕ) → bs ≡ text → behind ≡ drop n text → (n < length bs → p (get_or bs n 0) ≡ false) → goes_on p behind ≡ false
run_stops p bs text behind n same cut stops = ap (goes_on p) (cut ∙ ap (drop n) (sym same)) ∙ stops_there p bs n stops

-- the two parts of a text that is cut
pub cut_whole : (text front behind : List ℕ) (n : ℕ) → front ≡ take n text → behind ≡ drop n text → text ≡ front ++ behind
cut_whole text front behind n f b = sym (take-append-drop n text) ∙ ap (λ l. l ++ drop n text) (sym f) ∙ ap (λ l. front ++ l) (sym b)
