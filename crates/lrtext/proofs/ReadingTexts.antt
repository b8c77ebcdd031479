-- a text is read lexeme by lexeme up to its outcome
use Rattle.std.proofs.Common.{◌≡◌, ◌≢◌, ℕ, ◌+◌, ◌-◌, ◌≤◌, true, false, List, [], ◌∷◌, ◌++◌, length, None, Some, refl, ap, append_assoc, arith, subst}
use Rattle.lrspec.specs.texts.Lexemes.{Lexeme, Misfit, Placed, HasLexemes}
use Rattle.lrtext.specs.NextLexemes.{GoesOnAt, HasNext, HasMisfit}
use Rattle.lrspec.specs.texts.Documents.{lexemes_of, IsSyntaxErrorAt}
use Rattle.lrspec.specs.texts.ReadingStates.{ReadingState, AtDeclaration, WantsStart, WantsName, InLine, AtRule, WantsColon, InBody, WantsPrecedence, BehindBody, Behind, may_end, next_state}
use Rattle.lrspec.proofs.texts.LexemesOfText.{lexemes_within, within_has}
use Rattle.lrtext.proofs.ReadLexemes.{HasRead, has_read_none, has_read_more, has_read_all, has_read_misfit}
use Rattle.lrtext.specs.Readings.{Reading, first_reading, moved, take_lexeme, reading_behind}
use Rattle.lrtext.specs.Readings.{contents_in}
use Rattle.lrtext.specs.ReadErrors.{HasContents}
use Rattle.lrtext.proofs.ReadingOutcomes.{reading_more, read_stops, read_ends_early, read_ends, read_ends_behind}

-- the text was read up to `rest`, not behind its second `%%`, and `x` is what was read
pub record IsReadTo (text : List ℕ) (x : Reading) (rest : List ℕ) : Type 0 where
  pub before : List Placed
  pub has : HasRead text before rest
  pub reading : reading_behind first_reading (lexemes_of before) ≡ Some x
  pub ahead : x.state ≢ Behind

-- at first nothing was read
pub read_none : (text : List ℕ) → IsReadTo text first_reading text
read_none text = record { before = []; has = has_read_none text; reading = refl; ahead = λ e. (cc) }

-- the place of a rest
placed : (text at : List ℕ) → length at ≤ length text → length text - length at + length at ≡ length text
placed text at h = omega arith

-- one lexeme more
step : {text rest at behind : List ℕ} {x y : Reading} {i : Lexeme} (r : IsReadTo text x rest) → HasNext rest at i behind → take_lexeme x i ≡ Some y → (before : List Placed) × HasRead text before behind × (reading_behind first_reading (lexemes_of before) ≡ Some y)
step {text = text} {rest = rest} {at = at} {behind = behind} {x = x} {y = y} {i = i} r next taken =
    let p : Placed = record { place = length text - length at; lexeme = i } in (
      r.before ++ p ∷ [],
      has_read_more text rest at behind r.before i p.place r.has next (placed text at (omega (arith, next.within, r.has.within))),
      reading_more r.before p x y r.reading taken,
    )

-- one more lexeme was read
pub read_more : {text rest at behind : List ℕ} {x y : Reading} {i : Lexeme} → IsReadTo text x rest → HasNext rest at i behind → take_lexeme x i ≡ Some y → y.state ≢ Behind → IsReadTo text y behind
read_more r next taken ahead = let (before, has, reading) = step r next taken in record { before = before; has = has; reading = reading; ahead = ahead }

-- the lexemes of a rest
rest_lexemes : (text rest : List ℕ) (before : List Placed) → HasRead text before rest → (after : List Placed) × HasLexemes text 0 (before ++ after)
rest_lexemes text rest before read =
    let n = length text - length rest in
    let after = lexemes_within (length rest) n rest in
    (after, read.whole n after (placed text rest read.within) (within_has (length rest) n rest (omega arith)))

-- the lexeme is the second `%%`, so that the text is a document
pub read_behind : {text rest at behind : List ℕ} {x y : Reading} {i : Lexeme} → IsReadTo text x rest → HasNext rest at i behind → take_lexeme x i ≡ Some y → y.state ≡ Behind → HasContents text (contents_in y)
read_behind {text = text} {behind = behind} {y = y} r next taken e =
    let (before, has, reading) = step r next taken in
    let (after, all) = rest_lexemes text behind before has in
    read_ends_behind text before after y all reading e

-- the lexeme may not come, so that the syntax error is there
pub read_refused : {text rest at behind : List ℕ} {x : Reading} {i : Lexeme} (n : ℕ) → IsReadTo text x rest → HasNext rest at i behind → take_lexeme x i ≡ None → n + length at ≡ length text → IsSyntaxErrorAt text n
read_refused {text = text} {rest = rest} {at = at} {behind = behind} {x = x} {i = i} n r next refused place =
    let p : Placed = record { place = n; lexeme = i } in
    let (after, all) = rest_lexemes text behind (r.before ++ p ∷ []) (has_read_more text rest at behind r.before i n r.has next place) in
    read_stops text r.before after p x (subst (HasLexemes text 0) (append_assoc r.before (p ∷ []) after) all) r.reading refused

-- a misfit may come nowhere but behind the second `%%`
misfit_refused : (s : ReadingState) → s ≢ Behind → next_state s Misfit ≡ None
misfit_refused (AtDeclaration seen) h = refl
misfit_refused WantsStart h = refl
misfit_refused (WantsName seen) h = refl
misfit_refused (InLine seen) h = refl
misfit_refused AtRule h = refl
misfit_refused WantsColon h = refl
misfit_refused InBody h = refl
misfit_refused WantsPrecedence h = refl
misfit_refused BehindBody h = refl
misfit_refused Behind h = absurd (h refl)

-- no lexeme begins there, so that the syntax error is there
pub read_misfit : {text rest at : List ℕ} {x : Reading} (n : ℕ) → IsReadTo text x rest → HasMisfit rest at → n + length at ≡ length text → IsSyntaxErrorAt text n
read_misfit {text = text} {rest = rest} {at = at} {x = x} n r misfit place =
    read_stops text r.before [] (record { place = n; lexeme = Misfit }) x (has_read_misfit text rest at r.before n r.has misfit place) r.reading (ap (moved Misfit x) (misfit_refused x.state r.ahead))

-- the text ends where a document may end, so that it is one
pub read_all : {text rest : List ℕ} {x : Reading} → IsReadTo text x rest → GoesOnAt rest [] → may_end x.state ≡ true → HasContents text (contents_in x)
read_all {text = text} {rest = rest} {x = x} r ends may = read_ends text r.before x (has_read_all text rest r.before r.has ends) r.reading may

-- the text ends too early, so that the syntax error is at its end
pub read_early : {text rest : List ℕ} {x : Reading} → IsReadTo text x rest → GoesOnAt rest [] → may_end x.state ≡ false → IsSyntaxErrorAt text (length text)
read_early {text = text} {rest = rest} {x = x} r ends may = read_ends_early text r.before x (has_read_all text rest r.before r.has ends) r.reading may
