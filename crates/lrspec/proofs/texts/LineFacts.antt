-- how lines grow with the bytes: the whole lines of bytes stay, and their rest goes on
use Rattle.std.proofs.Common.{◌≡◌, ℕ, ◌<◌, ◌==◌, ◌∙◌, sym, ap, refl, arith, length, map, List, [], ◌∷◌, ◌++◌, true, false, Bool, cond, append_assoc, length-append}
use Rattle.std.specs.List.{All, onto_first}
use Rattle.std.specs.Str.Lines.{strip_carriage_return, lines_of_parts}
use Rattle.std.specs.Str.Lines as text
use Rattle.std.proofs.lemmas.List.{map-append}
use Rattle.std.proofs.lemmas.List.Splits.{length-slice_split, slice_split-cons_no, slice_split_none, slice_split_at}
use Rattle.std.proofs.lemmas.Bool.{ne_eqb}
use Rattle.lrspec.specs.texts.Lines.{nonempty, line_parts, all_but_last, last_part, whole_lines, rest_of, lines, HasNoLineFeed}

-- ---- parts

-- there is always a part
some_part : (bytes : List ℕ) → 0 < length (line_parts bytes)
some_part bytes = omega (arith, length-slice_split (λ b. b == 10) bytes)

all_but_last-cons : (part : List ℕ) (ps : List (List ℕ)) → 0 < length ps
    → all_but_last (part ∷ ps) ≡ part ∷ all_but_last ps
all_but_last-cons part [] l = absurd (omega arith)
all_but_last-cons part (next ∷ more) l = refl

last_part-cons : (part : List ℕ) (ps : List (List ℕ)) → 0 < length ps
    → last_part (part ∷ ps) ≡ last_part ps
last_part-cons part [] l = absurd (omega arith)
last_part-cons part (next ∷ more) l = refl

all_but_last-append : (ps qs : List (List ℕ)) → 0 < length qs
    → all_but_last (ps ++ qs) ≡ ps ++ all_but_last qs
all_but_last-append [] qs l = refl
all_but_last-append (part ∷ ps) qs l =
    all_but_last-cons part (ps ++ qs) (omega (arith, length-append ps qs))
    ∙ ap (λ xs. part ∷ xs) (all_but_last-append ps qs l)

last_part-append : (ps qs : List (List ℕ)) → 0 < length qs → last_part (ps ++ qs) ≡ last_part qs
last_part-append [] qs l = refl
last_part-append (part ∷ ps) qs l =
    last_part-cons part (ps ++ qs) (omega (arith, length-append ps qs)) ∙ last_part-append ps qs l

-- one more byte in front of the first of some parts
onto_first-append : (x : ℕ) (ps : List (List ℕ)) (b : List ℕ) → 0 < length ps → (x == 10) ≡ false
    → onto_first x (all_but_last ps ++ line_parts (last_part ps ++ b))
    ≡ all_but_last (onto_first x ps) ++ line_parts (last_part (onto_first x ps) ++ b)
onto_first-append x [] b l e = absurd (omega arith)
onto_first-append x (part ∷ []) b l e = sym (slice_split-cons_no (λ c. c == 10) x (part ++ b) e)
onto_first-append x (part ∷ next ∷ more) b l e = refl

-- one more byte in front of bytes: a line feed, or not
front_step : (t : Bool) (x : ℕ) (ps : List (List ℕ)) (b : List ℕ) → 0 < length ps → (x == 10) ≡ t
    → cond t ([] ∷ (all_but_last ps ++ line_parts (last_part ps ++ b)))
    (onto_first x (all_but_last ps ++ line_parts (last_part ps ++ b)))
    ≡ all_but_last (cond t ([] ∷ ps) (onto_first x ps))
    ++ line_parts (last_part (cond t ([] ∷ ps) (onto_first x ps)) ++ b)
front_step true x ps b l e = rw (all_but_last-cons [] ps l, last_part-cons [] ps l) refl
front_step false x ps b l e = onto_first-append x ps b l e

-- the parts of bytes and more: all but the last stay
line_parts-append : (a b : List ℕ)
    → line_parts (a ++ b) ≡ all_but_last (line_parts a) ++ line_parts (last_part (line_parts a) ++ b)
line_parts-append [] b = refl
line_parts-append (x ∷ a) b =
    ap (λ qs. cond (x == 10) ([] ∷ qs) (onto_first x qs)) (line_parts-append a b)
    ∙ front_step (x == 10) x (line_parts a) b (some_part a) refl

-- ---- lines

-- more bytes behind others: the whole lines of these stay
pub whole_lines-append : (a b : List ℕ)
    → whole_lines (a ++ b) ≡ whole_lines a ++ whole_lines (rest_of a ++ b)
whole_lines-append a b =
    let ps = all_but_last (line_parts a) in
    let qs = line_parts (rest_of a ++ b) in
    ap (λ rs. map strip_carriage_return (all_but_last rs)) (line_parts-append a b)
    ∙ ap (map strip_carriage_return) (all_but_last-append ps qs (some_part (rest_of a ++ b)))
    ∙ map-append strip_carriage_return ps (all_but_last qs)

-- and the rest goes on
pub rest_of-append : (a b : List ℕ) → rest_of (a ++ b) ≡ rest_of (rest_of a ++ b)
rest_of-append a b =
    let qs = line_parts (rest_of a ++ b) in
    ap last_part (line_parts-append a b)
    ∙ last_part-append (all_but_last (line_parts a)) qs (some_part (rest_of a ++ b))

-- all lines of bytes and more are the whole lines of the bytes, and those of their rest and more
pub lines-append : (a b : List ℕ) → lines (a ++ b) ≡ whole_lines a ++ lines (rest_of a ++ b)
lines-append a b =
    ap (λ ls. ls ++ nonempty (rest_of (a ++ b) ∷ [])) (whole_lines-append a b)
    ∙ ap (λ r. whole_lines a ++ whole_lines (rest_of a ++ b) ++ nonempty (r ∷ [])) (rest_of-append a b)
    ∙ append_assoc (whole_lines a) (whole_lines (rest_of a ++ b))
    (nonempty (rest_of (rest_of a ++ b) ∷ []))

-- ---- bytes without a line feed

no_feed_test : (bytes : List ℕ) → HasNoLineFeed bytes → All (λ b. (b == 10) ≡ false) bytes
no_feed_test bytes h k d l = ne_eqb _ _ (h k d l)

-- they are their own rest
pub rest_without_feed : (bytes : List ℕ) → HasNoLineFeed bytes → rest_of bytes ≡ bytes
rest_without_feed bytes h = ap last_part (slice_split_none (λ b. b == 10) bytes (no_feed_test bytes h))

-- and have no whole line
pub no_whole_line : (bytes : List ℕ) → HasNoLineFeed bytes → whole_lines bytes ≡ []
no_whole_line bytes h =
    ap (λ ps. map strip_carriage_return (all_but_last ps))
    (slice_split_none (λ b. b == 10) bytes (no_feed_test bytes h))

-- a line feed behind them and other bytes behind that: they are a part in front of those of the others
parts_at_feed : (a b : List ℕ) → HasNoLineFeed a → line_parts (a ++ 10 ∷ b) ≡ a ∷ line_parts b
parts_at_feed a b h = slice_split_at (λ c. c == 10) a 10 b (no_feed_test a h) refl

pub whole_lines_at_feed : (a b : List ℕ) → HasNoLineFeed a
    → whole_lines (a ++ 10 ∷ b) ≡ strip_carriage_return a ∷ whole_lines b
whole_lines_at_feed a b h =
    ap (λ ps. map strip_carriage_return (all_but_last ps)) (parts_at_feed a b h)
    ∙ ap (map strip_carriage_return) (all_but_last-cons a (line_parts b) (some_part b))

pub rest_at_feed : (a b : List ℕ) → HasNoLineFeed a → rest_of (a ++ 10 ∷ b) ≡ rest_of b
rest_at_feed a b h = ap last_part (parts_at_feed a b h) ∙ last_part-cons a (line_parts b) (some_part b)

-- ---- the lines of std

lines_of_parts_are : (ps : List (List ℕ))
    → map strip_carriage_return (all_but_last ps) ++ nonempty (last_part ps ∷ []) ≡ lines_of_parts ps
lines_of_parts_are [] = refl
lines_of_parts_are ([] ∷ []) = refl
lines_of_parts_are ((b ∷ part) ∷ []) =
    ap (λ t. cond t [] ((b ∷ part) ∷ []))
    (sym (ne_eqb (length (b ∷ part)) 0 (λ e. absurd (omega arith))))
lines_of_parts_are (part ∷ next ∷ more) =
    ap (λ ls. strip_carriage_return part ∷ ls) (lines_of_parts_are (next ∷ more))

-- the lines are those that `str::lines` gives of a text
pub lines_of_std : (bytes : List ℕ) → lines bytes ≡ text.lines bytes
lines_of_std bytes = lines_of_parts_are (line_parts bytes)
