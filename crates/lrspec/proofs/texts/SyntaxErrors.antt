-- the syntax error of a text is where the reading states stop; a text has one or is a document
use Rattle.std.proofs.Common.{◌≡◌, ℕ, Bool, true, false, cond, List, [], ◌∷◌, ◌++◌, length, Option, None, Some, refl, ap, ◌∙◌, sym, subst, ◌↔◌, ◌⊎◌, inl, inr, append-nil}
use Rattle.std.proofs.lemmas.Bool.{cond-true}
use Rattle.lrspec.specs.texts.Lexemes.{Lexeme, Placed}
use Rattle.lrspec.specs.texts.Documents as document
use Rattle.lrspec.specs.texts.Documents.{Document, Reads, IsDocument, IsBeginning, IsSyntaxErrorAt, lexemes_of}
use Rattle.lrspec.specs.texts.ReadingStates.{ReadingState, first_state, may_end, next_state, state_behind}
use Rattle.lrspec.proofs.texts.LexemesOfText.{text_lexemes, text_has_lexemes, text_lexemes_only}
use Rattle.lrspec.proofs.texts.ReadingStateFacts.{document_leads, leads_document, leads_beginning, beginning_leads, behind_part}

-- the place of the first lexeme that may not come, or `end` if the lexemes end too early
abbrev pub error_place : ℕ → ReadingState → List Placed → Option ℕ
error_place end s [] = cond (may_end s) None (Some end)
error_place end s (p ∷ ps) = elim (next_state s p.lexeme) [ None ↦ Some p.place | Some t ↦ error_place end t ps ]

-- where lexemes stop leading on from a state: at one of them, or at their end
pub data Stops (s : ReadingState) (ps : List Placed) (end n : ℕ) : Type 0 where
  at_lexeme : (before after : List Placed) (p : Placed) (t : ReadingState) → ps ≡ before ++ p ∷ after → state_behind s (lexemes_of before) ≡ Some t → next_state t p.lexeme ≡ None → n ≡ p.place → Stops s ps end n
  at_end : (t : ReadingState) → state_behind s (lexemes_of ps) ≡ Some t → may_end t ≡ false → n ≡ end → Stops s ps end n

-- what `error_place` answers
abbrev pub IsErrorPlace : ReadingState → List Placed → ℕ → Option ℕ → Type 0
IsErrorPlace s ps end None = (t : ReadingState) × (state_behind s (lexemes_of ps) ≡ Some t) × (may_end t ≡ true)
IsErrorPlace s ps end (Some n) = Stops s ps end n

-- a lexeme and the lexemes behind it
behind_first : (s t u : ReadingState) (p : Placed) (is : List Lexeme) → next_state s p.lexeme ≡ Some t → state_behind t is ≡ Some u → state_behind s (p.lexeme ∷ is) ≡ Some u
behind_first s t u p is h k = ap (λ o. elim o [ None ↦ None | Some t ↦ state_behind t is ]) h ∙ k

-- a lexeme more that may come
place_later : (s t : ReadingState) (p : Placed) (ps : List Placed) (end : ℕ) (o : Option ℕ) → next_state s p.lexeme ≡ Some t → IsErrorPlace t ps end o → IsErrorPlace s (p ∷ ps) end o
place_later s t p ps end None h (u, k, may) = (u, behind_first s t u p (lexemes_of ps) h k, may)
place_later s t p ps end (Some n) h (Stops.at_lexeme before after q u e k stop same) = Stops.at_lexeme (p ∷ before) after q u (ap (λ l. p ∷ l) e) (behind_first s t u p (lexemes_of before) h k) stop same
place_later s t p ps end (Some n) h (Stops.at_end u k may same) = Stops.at_end u (behind_first s t u p (lexemes_of ps) h k) may same

-- no lexemes
end_place : (s : ReadingState) (end : ℕ) (b : Bool) → may_end s ≡ b → IsErrorPlace s [] end (cond b None (Some end))
end_place s end true h = (s, refl, h)
end_place s end false h = Stops.at_end s refl h refl

-- a first lexeme, by the state behind it
error_place_by : (s : ReadingState) (p : Placed) (ps : List Placed) (end : ℕ) (o : Option ReadingState) → next_state s p.lexeme ≡ o → ((t : ReadingState) → IsErrorPlace t ps end (error_place end t ps)) → IsErrorPlace s (p ∷ ps) end (elim o [ None ↦ Some p.place | Some t ↦ error_place end t ps ])
error_place_by s p ps end None h go = Stops.at_lexeme [] ps p s refl refl h refl
error_place_by s p ps end (Some t) h go = place_later s t p ps end (error_place end t ps) h (go t)

-- `error_place` is where the lexemes stop leading on, if they do
pub error_place_is : (ps : List Placed) (s : ReadingState) (end : ℕ) → IsErrorPlace s ps end (error_place end s ps)
error_place_is [] s end = end_place s end (may_end s) refl
error_place_is (p ∷ ps) s end = error_place_by s p ps end (next_state s p.lexeme) refl (λ t. error_place_is ps t end)

-- the place at which a text stops being a document, if it does
abbrev pub text_error : List ℕ → Option ℕ
text_error bs = error_place (length bs) first_state (text_lexemes bs)

-- a lexeme that may not come leads nowhere
no_step : (o : Option ReadingState) (is : List Lexeme) (t : ReadingState) → o ≡ None → elim o [ None ↦ None | Some u ↦ state_behind u is ] ≡ Some t → ⊥
no_step None is t h k = cc
no_step (Some u) is t h k = cc

-- lexemes and one that may not come are no beginning
not_beginning : (is : List Lexeme) (i : Lexeme) (t : ReadingState) → state_behind first_state is ≡ Some t → next_state t i ≡ None → IsBeginning (is ++ i ∷ []) → ⊥
not_beginning is i t h stop b =
    let (u, k) = beginning_leads (is ++ i ∷ []) b in
    let (v, at, on) = behind_part is (i ∷ []) first_state u k in
    let same : v ≡ t = cc in
    no_step (next_state v i) [] u (rw same stop) on

-- lexemes that end where no document may end are no document
not_document : (is : List Lexeme) (t : ReadingState) → state_behind first_state is ≡ Some t → may_end t ≡ false → IsDocument is → ⊥
not_document is t h may d =
    let (u, k, ends) = document_leads is d in
    let same : u ≡ t = cc in
    let both : may_end t ≡ true = rw (← same) ends in cc

-- where the states stop is the syntax error
pub stops_error : (bs : List ℕ) (n : ℕ) → Stops first_state (text_lexemes bs) (length bs) n → IsSyntaxErrorAt bs n
stops_error bs n (Stops.at_lexeme before after p t e h stop same) =
    rw same (document.IsSyntaxErrorAt.at_lexeme before after p (rw e at (text_has_lexemes bs)) (leads_beginning (lexemes_of before) t h) (not_beginning (lexemes_of before) p.lexeme t h stop))
stops_error bs n (Stops.at_end t h may same) =
    rw same (document.IsSyntaxErrorAt.at_end (text_has_lexemes bs) (leads_beginning (lexemes_of (text_lexemes bs)) t h) (not_document (lexemes_of (text_lexemes bs)) t h may))

-- the first of some lexemes, by the state behind it
place_by : (o : Option ReadingState) (p : Placed) (is : List Lexeme) (ps : List Placed) (end : ℕ) (t : ReadingState) (m : Option ℕ) → elim o [ None ↦ None | Some u ↦ state_behind u is ] ≡ Some t → ((u : ReadingState) → state_behind u is ≡ Some t → error_place end u ps ≡ m) → elim o [ None ↦ Some p.place | Some u ↦ error_place end u ps ] ≡ m
place_by None p is ps end t m h go = absurd (cc)
place_by (Some u) p is ps end t m h go = go u h

-- behind lexemes that lead on, the error is that of the others
pub place_behind : (before after : List Placed) (s t : ReadingState) (end : ℕ) → state_behind s (lexemes_of before) ≡ Some t → error_place end s (before ++ after) ≡ error_place end t after
place_behind [] after s t end h = let same : s ≡ t = cc in ap (λ s. error_place end s after) same
place_behind (p ∷ before) after s t end h = place_by (next_state s p.lexeme) p (lexemes_of before) (before ++ after) end t (error_place end t after) h (λ u k. place_behind before after u t end k)

-- the place of a lexeme that may not come
place_at : (p : Placed) (after : List Placed) (end : ℕ) (o : Option ReadingState) → ((u : ReadingState) → o ≡ Some u → ⊥) → elim o [ None ↦ Some p.place | Some u ↦ error_place end u after ] ≡ Some p.place
place_at p after end None h = refl
place_at p after end (Some u) h = absurd (h u refl)

-- the end, where no document may end
place_at_end : (t : ReadingState) (end : ℕ) (b : Bool) → may_end t ≡ b → (may_end t ≡ true → ⊥) → cond b None (Some end) ≡ Some end
place_at_end t end true h never = absurd (never h)
place_at_end t end false h never = refl

-- the first of some lexemes, by the state behind it
leads_on_by : (o : Option ReadingState) (is js : List Lexeme) (t : ReadingState) (m : Option ReadingState) → elim o [ None ↦ None | Some u ↦ state_behind u is ] ≡ Some t → ((u : ReadingState) → state_behind u is ≡ Some t → state_behind u (is ++ js) ≡ m) → elim o [ None ↦ None | Some u ↦ state_behind u (is ++ js) ] ≡ m
leads_on_by None is js t m h go = absurd (cc)
leads_on_by (Some u) is js t m h go = go u h

-- more lexemes lead on from where the first ones lead
pub leads_on : (is js : List Lexeme) (s t : ReadingState) → state_behind s is ≡ Some t → state_behind s (is ++ js) ≡ state_behind t js
leads_on [] js s t h = let same : s ≡ t = cc in ap (λ s. state_behind s js) same
leads_on (i ∷ is) js s t h = leads_on_by (next_state s i) is js t (state_behind t js) h (λ u k. leads_on is js u t k)

-- one lexeme more that may come
longer_leads : (is : List Lexeme) (i : Lexeme) (s t u : ReadingState) → state_behind s is ≡ Some t → next_state t i ≡ Some u → state_behind s (is ++ i ∷ []) ≡ Some u
longer_leads is i s t u h k = leads_on is (i ∷ []) s t h ∙ ap (λ o. elim o [ None ↦ None | Some v ↦ state_behind v [] ]) k

-- the syntax error is where the states stop
error_stops : (bs : List ℕ) (n : ℕ) → IsSyntaxErrorAt bs n → text_error bs ≡ Some n
error_stops bs n (document.IsSyntaxErrorAt.at_lexeme before after p h b never) =
    let (t, k) = beginning_leads (lexemes_of before) b in
    ap (error_place (length bs) first_state) (sym (text_lexemes_only h)) ∙ place_behind before (p ∷ after) first_state t (length bs) k
    ∙ place_at p after (length bs) (next_state t p.lexeme) (λ u e. never (leads_beginning (lexemes_of before ++ p.lexeme ∷ []) u (longer_leads (lexemes_of before) p.lexeme first_state t u k e)))
error_stops bs n (document.IsSyntaxErrorAt.at_end {placed = placed} h b never) =
    let (t, k) = beginning_leads (lexemes_of placed) b in
    ap (error_place (length bs) first_state) (sym (text_lexemes_only h) ∙ sym (append-nil placed)) ∙ place_behind placed [] first_state t (length bs) k
    ∙ place_at_end t (length bs) (may_end t) refl (λ ends. never (leads_document (lexemes_of placed) t k ends))

-- the syntax error of a text is at the place that the states give
pub syntax_error_iff : (bs : List ℕ) (n : ℕ) → (text_error bs ≡ Some n) ↔ IsSyntaxErrorAt bs n
syntax_error_iff bs n = (λ h. stops_error bs n (subst (IsErrorPlace first_state (text_lexemes bs) (length bs)) h (error_place_is (text_lexemes bs) first_state (length bs))), error_stops bs n)

-- at a document the states stop nowhere
error_free : (bs : List ℕ) (d : Document) → Reads bs d → text_error bs ≡ None
error_free bs d r =
    let (t, k, ends) = document_leads (lexemes_of r.placed) (d, r.is) in
    ap (error_place (length bs) first_state) (sym (text_lexemes_only r.has) ∙ sym (append-nil r.placed)) ∙ place_behind r.placed [] first_state t (length bs) k ∙ cond-true (may_end t) None (Some (length bs)) ends

-- where the states stop nowhere the text is a document
reads_where : (bs : List ℕ) → IsErrorPlace first_state (text_lexemes bs) (length bs) None → (d : Document) × Reads bs d
reads_where bs (t, h, ends) = let (d, k) = leads_document (lexemes_of (text_lexemes bs)) t h ends in (d, record { placed = text_lexemes bs; has = text_has_lexemes bs; is = k })

-- a text is a document where the states give no place
pub reads_iff : (bs : List ℕ) → (text_error bs ≡ None) ↔ ((d : Document) × Reads bs d)
reads_iff bs = (λ h. reads_where bs (subst (IsErrorPlace first_state (text_lexemes bs) (length bs)) h (error_place_is (text_lexemes bs) first_state (length bs))), λ (d, r). error_free bs d r)

-- a text, by where the states stop
reads_or_error_by : (bs : List ℕ) (o : Option ℕ) → text_error bs ≡ o → ((d : Document) × Reads bs d) ⊎ ((n : ℕ) × IsSyntaxErrorAt bs n)
reads_or_error_by bs None e = inl ((reads_iff bs).0 e)
reads_or_error_by bs (Some n) e = inr (n, (syntax_error_iff bs n).0 e)

-- a text is a document or has a syntax error
pub reads_or_error : (bs : List ℕ) → ((d : Document) × Reads bs d) ⊎ ((n : ℕ) × IsSyntaxErrorAt bs n)
reads_or_error bs = reads_or_error_by bs (text_error bs) refl

-- and not both
pub reads_no_error : {bs : List ℕ} {d : Document} {n : ℕ} → Reads bs d → IsSyntaxErrorAt bs n → ⊥
reads_no_error {bs = bs} {d = d} {n = n} r e = let a = error_free bs d r in let b = (syntax_error_iff bs n).1 e in cc

-- a text has one syntax error at most
pub syntax_error_same : {bs : List ℕ} {n m : ℕ} → IsSyntaxErrorAt bs n → IsSyntaxErrorAt bs m → n ≡ m
syntax_error_same {bs = bs} {n = n} {m = m} h k = let a = (syntax_error_iff bs n).1 h in let b = (syntax_error_iff bs m).1 k in cc
