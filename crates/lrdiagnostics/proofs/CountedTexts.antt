-- texts and stray bytes, and the columns behind them
use Rattle.std.proofs.Common.{◌≡◌, ℕ, ◌+◌, ◌-◌, ◌<◌, ◌≤◌, true, List, [], ◌∷◌, ◌++◌, length, take, drop, sym, ◌∙◌, ap, subst, arith, append_assoc, length-append}
use Rattle.std.proofs.lemmas.List.{take-append-drop, length-take-le, take_rest, nil_from_length}
use Rattle.std.proofs.Math.Seq.{take-append_seam}
use Rattle.std.proofs.lemmas.Str.{IsUtf8-append, IsUtf8-encode, length-encode, len_utf8_bounds, encodes-chars, scalars-chars}
use Rattle.std.proofs.lemmas.Bool.{and_parts}
use Rattle.std.specs.List.{fold}
use Rattle.std.specs.Str.{IsUtf8, IsValidUpTo, StartsWithNoChar, all_scalars, encode_utf8_all, chars}
use Rattle.std.specs.Prelude.{encode_utf8}
use Rattle.lrdiagnostics.specs.Positions.{column_after, counted, EndsBefore}
use Rattle.lrdiagnostics.specs.Positions.EndsBefore.{nothing, character, stray}

-- a character has a byte
pub some_byte : (c : ℕ) → 0 < length (encode_utf8 c)
some_byte c = omega (arith, length-encode c, (len_utf8_bounds c).0)

pub no_char_in_none : StartsWithNoChar []
no_char_in_none c rest _ e =
    let none : 0 ≡ length (encode_utf8 c) + length rest = ap length e ∙ length-append (encode_utf8 c) rest in
    let some = some_byte c in
    omega arith

-- no character begins behind the longest front that is UTF-8
pub no_char_behind : (bs : List ℕ) (n : ℕ) → IsValidUpTo bs n → StartsWithNoChar (drop n bs)
no_char_behind bs n v c rest s e =
    let front = take n bs ++ encode_utf8 c in
    let whole : front ++ rest ≡ bs = append_assoc (take n bs) (encode_utf8 c) rest ∙ ap (λ end. take n bs ++ end) (sym e) ∙ take-append-drop n bs in
    let is : take (length front) bs ≡ front = subst (λ text. take (length front) text ≡ front) whole (take-append_seam front rest) in
    let long : length front ≡ n + length (encode_utf8 c) = length-append (take n bs) (encode_utf8 c) ∙ ap (λ m. m + length (encode_utf8 c)) (length-take-le n bs (omega (arith, v.short))) in
    v.longest (length front) (omega (arith, some_byte c)) (subst IsUtf8 (sym is) (IsUtf8-append (take n bs) (encode_utf8 c) v.front (IsUtf8-encode c s)))

-- the column behind characters is that behind their text
behind_characters : (cs bs : List ℕ) (column behind : ℕ) → all_scalars cs ≡ true → EndsBefore bs (fold column_after column cs) behind → EndsBefore (encode_utf8_all cs ++ bs) column behind
behind_characters [] bs column behind s e = e
behind_characters (c ∷ cs) bs column behind s e =
    let parts = and_parts _ _ s in
    rw append_assoc (character c parts.0 (behind_characters cs bs (column_after column c) behind parts.1 e))

pub behind_text : (text bs : List ℕ) (column behind : ℕ) → IsUtf8 text → EndsBefore bs (fold column_after column (chars text)) behind → EndsBefore (text ++ bs) column behind
behind_text text bs column behind u e =
    subst (λ front. EndsBefore (front ++ bs) column behind) (encodes-chars text u) (behind_characters (chars text) bs column behind (scalars-chars text u) e)

pub past : (bs : List ℕ) (column behind : ℕ) → StartsWithNoChar bs → 1 ≤ length bs → EndsBefore (drop 1 bs) (counted (column + 1)) behind → EndsBefore bs column behind
past [] column behind none some e = absurd (omega arith)
past (b ∷ bs) column behind none some e = stray none e

-- a text that nothing is left behind, and one with a stray byte behind it
module _ (rest text others : List ℕ) (column : ℕ) (whole : text ++ others ≡ rest) (utf8 : IsUtf8 text) where
  pub ends : length others < 1 → EndsBefore rest column (fold column_after column (chars text))
  ends none =
      let empty : others ≡ [] = nil_from_length others (omega arith) in
      subst (λ front. EndsBefore front column (fold column_after column (chars text))) whole
      (behind_text text others column (fold column_after column (chars text)) utf8 (rw empty nothing))

  pub goes_on : (behind : ℕ) → StartsWithNoChar others → 1 ≤ length others → EndsBefore (take (length others - 1) (drop 1 others)) (counted (fold column_after column (chars text) + 1)) behind → EndsBefore rest column behind
  goes_on behind none some e =
      subst (λ front. EndsBefore front column behind) whole (behind_text text others column behind utf8 (past others (fold column_after column (chars text)) behind none some (rw (take_rest others 1) at e)))
