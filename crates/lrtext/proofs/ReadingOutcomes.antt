-- reading stops at the syntax error, or at the end of a document
use Rattle.std.proofs.Common.{◌≡◌, ℕ, true, false, List, [], ◌∷◌, ◌++◌, length, Option, None, Some, refl, ap, ◌∙◌, sym, subst}
use Rattle.std.proofs.lemmas.List.{map-append}
use Rattle.lrspec.specs.texts.Lexemes.{Lexeme, Placed, HasLexemes}
use Rattle.lrspec.specs.texts.Documents.{lexemes_of, IsSyntaxErrorAt}
use Rattle.lrspec.specs.texts.ReadingStates.{ReadingState, Behind, may_end, next_state, state_behind}
use Rattle.lrspec.specs.texts.Meaning.{contents_of}
use Rattle.lrtext.specs.ReadErrors.{HasContents}
use Rattle.lrspec.proofs.texts.LexemesOfText.{text_lexemes_only}
use Rattle.lrspec.proofs.texts.ReadingStateFacts.{leads_document}
use Rattle.lrspec.proofs.texts.SyntaxErrors as error
use Rattle.lrspec.proofs.texts.SyntaxErrors.{stops_error}
use Rattle.lrtext.specs.Readings.{Reading, first_reading, added, moved, take_lexeme, reading_behind}
use Rattle.lrtext.specs.Readings.{contents_in}
use Rattle.lrtext.proofs.ReadingDocuments.{behind_read, document_reading}

-- the state behind a lexeme that was taken
moved_state : (x y : Reading) (i : Lexeme) (o : Option ReadingState) → moved i x o ≡ Some y → o ≡ Some y.state
moved_state x y i None h = cc
moved_state x y i (Some t) h = let same : record (added x.state i x) { state = t } ≡ y = cc in ap (λ y. Some y.state) same

-- a lexeme that was not taken may not come
moved_not : (x : Reading) (i : Lexeme) (o : Option ReadingState) → moved i x o ≡ None → o ≡ None
moved_not x i None h = refl
moved_not x i (Some t) h = cc

-- the first of some lexemes, by what was read behind it
state_by : (x : Reading) (i : Lexeme) (o : Option Reading) (is : List Lexeme) (z : Reading) → take_lexeme x i ≡ o → elim o [ None ↦ None | Some y ↦ reading_behind y is ] ≡ Some z → ((y : Reading) → reading_behind y is ≡ Some z → state_behind y.state is ≡ Some z.state) → state_behind x.state (i ∷ is) ≡ Some z.state
state_by x i None is z e h go = absurd (cc)
state_by x i (Some y) is z e h go = ap (λ o. elim o [ None ↦ None | Some t ↦ state_behind t is ]) (moved_state x y i (next_state x.state i) e) ∙ go y h

-- what was read has the state behind the lexemes
reading_state : (is : List Lexeme) (x y : Reading) → reading_behind x is ≡ Some y → state_behind x.state is ≡ Some y.state
reading_state [] x y h = let same : x ≡ y = cc in ap (λ x. Some x.state) same
reading_state (i ∷ is) x y h = state_by x i (take_lexeme x i) is y refl h (λ z k. reading_state is z y k)

-- the first of some lexemes, by what was read behind it
on_by : (o : Option Reading) (is js : List Lexeme) (y : Reading) (m : Option Reading) → elim o [ None ↦ None | Some x ↦ reading_behind x is ] ≡ Some y → ((x : Reading) → reading_behind x is ≡ Some y → reading_behind x (is ++ js) ≡ m) → elim o [ None ↦ None | Some x ↦ reading_behind x (is ++ js) ] ≡ m
on_by None is js y m h go = absurd (cc)
on_by (Some x) is js y m h go = go x h

-- reading goes on behind the lexemes
reading_on : (is js : List Lexeme) (x y : Reading) → reading_behind x is ≡ Some y → reading_behind x (is ++ js) ≡ reading_behind y js
reading_on [] js x y h = let same : x ≡ y = cc in ap (λ x. reading_behind x js) same
reading_on (i ∷ is) js x y h = on_by (take_lexeme x i) is js y (reading_behind y js) h (λ z k. reading_on is js z y k)

-- what was read behind one lexeme more
pub reading_more : (before : List Placed) (p : Placed) (x y : Reading) → reading_behind first_reading (lexemes_of before) ≡ Some x → take_lexeme x p.lexeme ≡ Some y → reading_behind first_reading (lexemes_of (before ++ p ∷ [])) ≡ Some y
reading_more before p x y h e =
    ap (reading_behind first_reading) (map-append (λ p. p.lexeme) before (p ∷ []))
    ∙ reading_on (lexemes_of before) (p.lexeme ∷ []) first_reading x h
    ∙ ap (λ o. elim o [ None ↦ None | Some y ↦ reading_behind y [] ]) e

-- a lexeme that may not come is the syntax error
pub read_stops : (bs : List ℕ) (before after : List Placed) (p : Placed) (x : Reading) → HasLexemes bs 0 (before ++ p ∷ after) → reading_behind first_reading (lexemes_of before) ≡ Some x → take_lexeme x p.lexeme ≡ None → IsSyntaxErrorAt bs p.place
read_stops bs before after p x has h stop =
    stops_error bs p.place (error.Stops.at_lexeme before after p x.state (sym (text_lexemes_only has)) (reading_state (lexemes_of before) first_reading x h) (moved_not x p.lexeme (next_state x.state p.lexeme) stop) refl)

-- lexemes that end where no document may end have the syntax error at the end
pub read_ends_early : (bs : List ℕ) (is : List Placed) (x : Reading) → HasLexemes bs 0 is → reading_behind first_reading (lexemes_of is) ≡ Some x → may_end x.state ≡ false → IsSyntaxErrorAt bs (length bs)
read_ends_early bs is x has h may =
    stops_error bs (length bs) (error.Stops.at_end x.state (subst (λ is. state_behind first_reading.state (lexemes_of is) ≡ Some x.state) (text_lexemes_only has) (reading_state (lexemes_of is) first_reading x h)) may refl)

-- lexemes that end where a document may end are a document, and what was read is what it says
pub read_ends : (bs : List ℕ) (is : List Placed) (x : Reading) → HasLexemes bs 0 is → reading_behind first_reading (lexemes_of is) ≡ Some x → may_end x.state ≡ true → HasContents bs (contents_in x)
read_ends bs is x has h may =
    let (d, whole) = leads_document (lexemes_of is) x.state (reading_state (lexemes_of is) first_reading x h) may in
    let (y, k, says) = document_reading d (lexemes_of is) whole in
    let same : y ≡ x = cc in
    record { document = d; reads = record { placed = is; has = has; is = whole }; contents = subst (λ y. contents_in y ≡ contents_of d) same says }

-- nothing is read behind the second `%%`
behind_stays : (is : List Lexeme) (x : Reading) → x.state ≡ Behind → reading_behind x is ≡ Some x
behind_stays is x e = subst (λ y. reading_behind y is ≡ Some y) (ap (λ s. record x { state = s }) (sym e)) (behind_read is x)

-- whatever stands behind the second `%%`, the text is a document
pub read_ends_behind : (bs : List ℕ) (before after : List Placed) (x : Reading) → HasLexemes bs 0 (before ++ after) → reading_behind first_reading (lexemes_of before) ≡ Some x → x.state ≡ Behind → HasContents bs (contents_in x)
read_ends_behind bs before after x has h is_behind = read_ends bs (before ++ after) x has
    (ap (reading_behind first_reading) (map-append (λ p. p.lexeme) before after) ∙ reading_on (lexemes_of before) (lexemes_of after) first_reading x h ∙ behind_stays (lexemes_of after) x is_behind)
    (ap may_end is_behind)
