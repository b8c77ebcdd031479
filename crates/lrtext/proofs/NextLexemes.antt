-- the next lexeme behind blanks and comments is that of the text
use Rattle.std.proofs.Common.{◌≡◌, ℕ, ◌+◌, ◌<◌, ◌≤◌, List, [], ◌∷◌, ◌++◌, length, refl, ap, ◌∙◌, sym, length-append, append_assoc, append-nil, arith, subst}
use Rattle.lrspec.specs.texts.Lexemes as text
use Rattle.lrspec.specs.texts.Lexemes.{Lexeme, Misfit, IsGap, IsMisfit, Placed, HasLexemes}
use Rattle.lrtext.specs.NextLexemes.{Gaps, none, more, GoesOnAt, BeginsWith, HasNext, HasMisfit}
use Rattle.lrspec.proofs.texts.LexemesOfText.{gap_some, lexeme_some}

-- one more gap behind others
gaps_more : {g at w rest : List ℕ} → Gaps g at → at ≡ w ++ rest → IsGap w rest → Gaps (g ++ w) rest
gaps_more {w = w} {rest = rest} none e gap = subst (λ l. Gaps l rest) (append-nil w) (more gap none)
gaps_more {at = at} {w = w} {rest = rest} (more {w = v} {g = g} first others) e gap =
    rw (append_assoc v g w) (more (subst (IsGap v) (ap (λ l. g ++ l) e ∙ sym (append_assoc g w rest)) first) (gaps_more others e gap))

-- a text goes on with itself
pub goes_on_here : (text : List ℕ) → GoesOnAt text text
goes_on_here text = record { skipped = []; whole = refl; gaps = none }

-- one more blank or comment is skipped
pub goes_on_behind : (text at w rest : List ℕ) → GoesOnAt text at → at ≡ w ++ rest → IsGap w rest → GoesOnAt text rest
goes_on_behind text at w rest t e gap = record {
  skipped = t.skipped ++ w;
  whole = t.whole ∙ ap (λ l. t.skipped ++ l) e ∙ sym (append_assoc t.skipped w rest);
  gaps = gaps_more t.gaps e gap;
}

-- what stands behind a blank or a comment is shorter
pub gap_shortens : {at w rest : List ℕ} → at ≡ w ++ rest → IsGap w rest → length rest < length at
gap_shortens {w = w} {rest = rest} e gap = let (b, v, f) = gap_some gap in omega (arith, ap length e, ap length f, length-append w rest)

-- the rest at which a text goes on is no longer than the text
goes_on_within : {text at : List ℕ} → GoesOnAt text at → length at ≤ length text
goes_on_within {at = at} t = omega (arith, ap length t.whole, length-append t.skipped at)

-- what stands behind a lexeme is shorter
lexeme_shortens : {at behind : List ℕ} {i : Lexeme} → BeginsWith at i behind → length behind < length at
lexeme_shortens {behind = behind} t = let (b, v, f) = lexeme_some t.spells in omega (arith, ap length t.whole, ap length f, length-append t.word behind)

-- the lexeme with which the rest begins comes next
pub begins_next : {text at behind : List ℕ} {i : Lexeme} → GoesOnAt text at → BeginsWith at i behind → HasNext text at i behind
begins_next t b = record { goes_on = t; begins = b; within = goes_on_within t; shorter = lexeme_shortens b }

-- the misfit comes next
pub misfit_next : {text at : List ℕ} → GoesOnAt text at → IsMisfit at → HasMisfit text at
misfit_next t m = record { goes_on = t; misfit = m; within = goes_on_within t }

-- blanks and comments in front of a text change none of its lexemes
behind_gaps : {g at : List ℕ} {n m : ℕ} {is : List Placed} → Gaps g at → m ≡ n + length g → HasLexemes at m is → HasLexemes (g ++ at) n is
behind_gaps {at = at} {n = n} {m = m} {is = is} none e h = let same : m ≡ n = omega arith in subst (λ k. HasLexemes at k is) same h
behind_gaps {at = at} {n = n} {m = m} (more {w = w} {g = g} first others) e h =
    let same : m ≡ n + length w + length g = omega (arith, length-append w g) in
    rw (append_assoc w g at) (text.HasLexemes.gap {n = n} first (behind_gaps others same h))

-- the lexemes of a text at place `n` are those of the place `m` at which it goes on; `e` is where it ends
goes_on_lexemes : (rest at : List ℕ) (n m e : ℕ) (is : List Placed) → GoesOnAt rest at → n + length rest ≡ e → m + length at ≡ e → HasLexemes at m is → HasLexemes rest n is
goes_on_lexemes rest at n m e is t a b h = rw t.whole (behind_gaps t.gaps (omega (arith, ap length t.whole, length-append t.skipped at)) h)

-- a lexeme stands before those behind it; `e` is the place where the text ends
pub has_next_lexeme : (rest at behind : List ℕ) (i : Lexeme) (n p m e : ℕ) (is : List Placed) → HasNext rest at i behind → n + length rest ≡ e → p + length at ≡ e → m + length behind ≡ e → HasLexemes behind m is → HasLexemes rest n (record { place = p; lexeme = i } ∷ is)
has_next_lexeme rest at behind i n p m e is t end_n end_p end_m h =
    let b = t.begins in
    let same : m ≡ p + length b.word = omega (arith, ap length b.whole, length-append b.word behind) in
    goes_on_lexemes rest at n p e _ t.goes_on end_n end_p (rw b.whole (text.HasLexemes.lexeme b.spells (subst (λ k. HasLexemes behind k is) same h)))

-- a text that ends behind blanks and comments has no lexemes
pub has_no_lexeme : (rest : List ℕ) (n : ℕ) → GoesOnAt rest [] → HasLexemes rest n []
has_no_lexeme rest n t = goes_on_lexemes rest [] n (n + length rest) (n + length rest) [] t refl (omega arith) text.HasLexemes.end

-- a misfit is the only lexeme of the text that goes on with it; `e` is the place where the text ends
pub has_misfit : (rest at : List ℕ) (n p e : ℕ) → HasMisfit rest at → n + length rest ≡ e → p + length at ≡ e → HasLexemes rest n (record { place = p; lexeme = Misfit } ∷ [])
has_misfit rest at n p e t end_n end_p = goes_on_lexemes rest at n p e _ t.goes_on end_n end_p (text.HasLexemes.misfit t.misfit)
