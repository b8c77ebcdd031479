-- a text has one list of lexemes
use Rattle.std.proofs.Common.{◌≡◌, ◌≢◌, ℕ, zero, suc, ◌+◌, ◌≤◌, List, [], ◌∷◌, ◌++◌, length, refl, ap, ◌∙◌, sym, length-append, arith}
use Rattle.lrspec.specs.texts.Lexemes as text
use Rattle.lrspec.specs.texts.Lexemes.{Lexeme, Misfit, IsGap, Spells, IsMisfit, Placed, HasLexemes}
use Rattle.lrspec.proofs.texts.TextFronts.{Front, Gap, Found, Unfit, front}
use Rattle.lrspec.proofs.texts.FrontComplete.{front_gap, front_lexeme}
use Rattle.lrspec.proofs.texts.FrontSound.{IsFront, front_is, unfit_is}

-- the lexemes of a text at place `n`, by what stands in front of it and the lexemes of the rest
abbrev pub lexemes_by : (ℕ → List ℕ → List Placed) → ℕ → Front → List Placed
lexemes_by go n (Gap w rest) = go (n + length w) rest
lexemes_by go n (Found i w rest) = record { place = n; lexeme = i } ∷ go (n + length w) rest
lexemes_by go n Unfit = record { place = n; lexeme = Misfit } ∷ []

-- the lexemes of a text of at most `k` bytes that begins at place `n`
abbrev pub lexemes_within : ℕ → ℕ → List ℕ → List Placed
lexemes_within zero n bs = []
lexemes_within (suc k) n [] = []
lexemes_within (suc k) n (b ∷ bs) = lexemes_by (lexemes_within k) n (front (b ∷ bs))

-- the lexemes of a text
abbrev pub text_lexemes : List ℕ → List Placed
text_lexemes bs = lexemes_within (length bs) 0 bs

pub gap_some : {w rest : List ℕ} → IsGap w rest → (b : ℕ) × (v : List ℕ) × (w ≡ b ∷ v)
gap_some (text.IsGap.blank h) = (_, _, refl)
gap_some (text.IsGap.line h s) = (_, _, refl)
gap_some (text.IsGap.block c h) = (_, _, refl)

pub lexeme_some : {w rest : List ℕ} {i : Lexeme} → Spells w i rest → (b : ℕ) × (v : List ℕ) × (w ≡ b ∷ v)
lexeme_some (text.Spells.name h all s) = (_, _, refl)
lexeme_some (text.Spells.quoted h all) = (_, _, refl)
lexeme_some (text.Spells.start s) = (_, _, refl)
lexeme_some (text.Spells.token s) = (_, _, refl)
lexeme_some (text.Spells.left s) = (_, _, refl)
lexeme_some (text.Spells.right s) = (_, _, refl)
lexeme_some (text.Spells.nonassoc s) = (_, _, refl)
lexeme_some (text.Spells.precedence s) = (_, _, refl)
lexeme_some text.Spells.separator = (_, _, refl)
lexeme_some text.Spells.colon = (_, _, refl)
lexeme_some text.Spells.bar = (_, _, refl)
lexeme_some text.Spells.semicolon = (_, _, refl)

shorter : (text w rest v : List ℕ) (b k : ℕ) → text ≡ w ++ rest → w ≡ b ∷ v → length text ≤ suc k → length rest ≤ k
shorter text w rest v b k e f h = omega (arith, ap length e, ap length f, length-append w rest)

nothing : (bs : List ℕ) → length bs ≤ 0 → bs ≡ []
nothing [] h = refl
nothing (b ∷ bs) h = absurd (omega arith)

not_ended : (w rest v : List ℕ) (b : ℕ) → w ≡ b ∷ v → w ++ rest ≢ []
not_ended [] rest v b e z = cc
not_ended (c ∷ w) rest v b e z = cc

has_by : (k n : ℕ) (bs : List ℕ) (f : Front) → bs ≢ [] → front bs ≡ f → IsFront bs f → length bs ≤ suc k → ((m : ℕ) (rest : List ℕ) → length rest ≤ k → HasLexemes rest m (lexemes_within k m rest)) → HasLexemes bs n (lexemes_by (lexemes_within k) n f)
has_by k n bs (Gap w rest) some e (whole, g) h go = let (b, v, f) = gap_some g in rw whole (text.HasLexemes.gap g (go (n + length w) rest (shorter bs w rest v b k whole f h)))
has_by k n bs (Found i w rest) some e (whole, s) h go = let (b, v, f) = lexeme_some s in rw whole (text.HasLexemes.lexeme s (go (n + length w) rest (shorter bs w rest v b k whole f h)))
has_by k n bs Unfit some e t h go = text.HasLexemes.misfit (unfit_is bs some e)

pub within_has : (k n : ℕ) (bs : List ℕ) → length bs ≤ k → HasLexemes bs n (lexemes_within k n bs)
within_has zero n [] h = text.HasLexemes.end
within_has zero n (b ∷ bs) h = absurd (omega arith)
within_has (suc k) n [] h = text.HasLexemes.end
within_has (suc k) n (b ∷ bs) h = has_by k n (b ∷ bs) (front (b ∷ bs)) (λ z. (cc)) refl (front_is (b ∷ bs)) h (within_has k)

-- every text has lexemes
pub text_has_lexemes : (bs : List ℕ) → HasLexemes bs 0 (text_lexemes bs)
text_has_lexemes bs = within_has (length bs) 0 bs (omega arith)

within_front : (k n : ℕ) (bs : List ℕ) (f : Front) → bs ≢ [] → front bs ≡ f → length bs ≤ k → (j : ℕ) × (k ≡ suc j) × (lexemes_within k n bs ≡ lexemes_by (lexemes_within j) n f)
within_front zero n bs f some e h = absurd (some (nothing bs h))
within_front (suc j) n [] f some e h = absurd (some refl)
within_front (suc j) n (b ∷ bs) f some e h = (j, refl, ap (lexemes_by (lexemes_within j) n) e)

within_behind : (k n : ℕ) (w rest v : List ℕ) (b : ℕ) (f : Front) → w ≡ b ∷ v → front (w ++ rest) ≡ f → length (w ++ rest) ≤ k → (j : ℕ) × (length rest ≤ j) × (lexemes_within k n (w ++ rest) ≡ lexemes_by (lexemes_within j) n f)
within_behind k n w rest v b f e same h =
    let (j, is_suc, by) = within_front k n (w ++ rest) f (λ z. not_ended w rest v b e z) same h in
    (j, omega (arith, ap length e, length-append w rest), by)

within_ended : (k n : ℕ) → [] ≡ lexemes_within k n []
within_ended zero n = refl
within_ended (suc k) n = refl

misfit_unfit : (bs : List ℕ) (f : Front) → IsMisfit bs → IsFront bs f → f ≡ Unfit
misfit_unfit bs (Gap w rest) m (e, g) = absurd (m.no_gap w rest e g)
misfit_unfit bs (Found i w rest) m (e, s) = absurd (m.no_lexeme w rest i e s)
misfit_unfit bs Unfit m t = refl

-- a text has no other lexemes
pub only_within : {bs : List ℕ} {n : ℕ} {is : List Placed} → HasLexemes bs n is → (k : ℕ) → length bs ≤ k → is ≡ lexemes_within k n bs
only_within {n = n} text.HasLexemes.end k h = within_ended k n
only_within {n = n} (text.HasLexemes.gap {w = w} {rest = rest} g t) k h =
    let (b, v, e) = gap_some g in
    let (j, room, by) = within_behind k n w rest v b (Gap w rest) e (front_gap g) h in
    only_within t j room ∙ sym by
only_within {n = n} (text.HasLexemes.lexeme {w = w} {rest = rest} {l = i} s t) k h =
    let (b, v, e) = lexeme_some s in
    let (j, room, by) = within_behind k n w rest v b (Found i w rest) e (front_lexeme s) h in
    ap (λ is. record { place = n; lexeme = i } ∷ is) (only_within t j room) ∙ sym by
only_within {bs = bs} {n = n} (text.HasLexemes.misfit m) k h = sym (within_front k n bs Unfit m.some (misfit_unfit bs (front bs) m (front_is bs)) h).2

-- a text has one list of lexemes
pub text_lexemes_only : {bs : List ℕ} {is : List Placed} → HasLexemes bs 0 is → is ≡ text_lexemes bs
text_lexemes_only {bs} h = only_within h (length bs) (omega arith)
