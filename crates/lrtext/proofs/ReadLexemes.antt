-- the lexemes of a text that was read up to a rest of it
use Rattle.std.proofs.Common.{◌≡◌, ℕ, ◌+◌, ◌-◌, ◌≤◌, List, [], ◌∷◌, ◌++◌, length, append_assoc, append-nil, arith, subst}
use Rattle.lrspec.specs.texts.Lexemes.{Lexeme, Misfit, Placed, HasLexemes}
use Rattle.lrtext.specs.NextLexemes.{GoesOnAt, HasNext, HasMisfit}
use Rattle.lrtext.proofs.NextLexemes.{has_next_lexeme, has_no_lexeme, has_misfit}

-- the text was read up to `rest`, and its lexemes so far are `before`
pub record HasRead (text : List ℕ) (before : List Placed) (rest : List ℕ) : Type 0 where
  pub within : length rest ≤ length text
  pub whole : (m : ℕ) (is : List Placed) → m + length rest ≡ length text → HasLexemes rest m is → HasLexemes text 0 (before ++ is)

-- at first nothing was read
pub has_read_none : (text : List ℕ) → HasRead text [] text
has_read_none text = record { within = omega arith; whole = λ m is e h. let zero : m ≡ 0 = omega arith in subst (λ n. HasLexemes text n is) zero h }

-- one more lexeme was read
pub has_read_more : (text rest at behind : List ℕ) (before : List Placed) (i : Lexeme) (p : ℕ) → HasRead text before rest → HasNext rest at i behind → p + length at ≡ length text → HasRead text (before ++ record { place = p; lexeme = i } ∷ []) behind
has_read_more text rest at behind before i p read next e = record {
  within = omega (arith, read.within, next.within, next.shorter);
  whole = λ m is f h.
      let n = length text - length rest in
      let all : n + length rest ≡ length text = omega (arith, read.within) in
      rw (append_assoc before (record { place = p; lexeme = i } ∷ []) is)
      (read.whole n (record { place = p; lexeme = i } ∷ is) all (has_next_lexeme rest at behind i n p m (length text) is next all e f h));
}

-- the text ends, and its lexemes are those that were read
pub has_read_all : (text rest : List ℕ) (before : List Placed) → HasRead text before rest → GoesOnAt rest [] → HasLexemes text 0 before
has_read_all text rest before read ends =
    let n = length text - length rest in
    subst (HasLexemes text 0) (append-nil before) (read.whole n [] (omega (arith, read.within)) (has_no_lexeme rest n ends))

-- no lexeme begins at the rest, so a misfit ends the lexemes
pub has_read_misfit : (text rest at : List ℕ) (before : List Placed) (p : ℕ) → HasRead text before rest → HasMisfit rest at → p + length at ≡ length text → HasLexemes text 0 (before ++ record { place = p; lexeme = Misfit } ∷ [])
has_read_misfit text rest at before p read next e =
    let n = length text - length rest in
    let all : n + length rest ≡ length text = omega (arith, read.within) in
    read.whole n (record { place = p; lexeme = Misfit } ∷ []) all (has_misfit rest at n p (length text) next all e)
