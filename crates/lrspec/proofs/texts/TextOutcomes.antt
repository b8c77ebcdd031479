-- a text is refused in one way or means one list of parts
use Rattle.std.proofs.Common.{◌≡◌, ℕ, List, [], ◌∷◌, Some, refl, sym, ap, ◌∙◌, ◌⊎◌, inl, inr, slice_get}
use Rattle.lrspec.specs.texts.Names.{has_no_repeats}
use Rattle.lrspec.specs.texts.Parts.{Parts}
use Rattle.lrspec.specs.texts.Documents.{Document, Reads}
use Rattle.lrspec.specs.texts.Meaning as meaning
use Rattle.lrspec.specs.texts.Meaning.{TextRefusal, Syntax, UnknownSymbol, DuplicatePrecedence, IsFirstRepeat, IsRefused, Means, contents_of, meant_parts, unknown_names, precedence_names}
use Rattle.lrspec.proofs.texts.SyntaxErrors.{reads_or_error, reads_no_error, syntax_error_same}
use Rattle.lrspec.proofs.texts.UniqueDocuments.{reads_same}
use Rattle.lrspec.proofs.texts.RepeatedNames.{first_repeat_same, first_repeat_repeats, first_repeat_or_none}

-- where no name is unknown there is no first one
none_unknown : {ws : List (List ℕ)} {w : List ℕ} → ws ≡ [] → slice_get ws 0 ≡ Some w → ⊥
none_unknown e k = let at = ap (λ vs. slice_get vs 0) e in cc

-- a text that means parts is refused in no way
pub means_not_refused : {text : List ℕ} {p : Parts} {r : TextRefusal} → Means text p → IsRefused text r → ⊥
means_not_refused m (meaning.IsRefused.syntax e) = reads_no_error m.reads e
means_not_refused m (meaning.IsRefused.unknown {d = d} reads k) =
    none_unknown (ap (λ d. unknown_names (contents_of d)) (reads_same reads m.reads) ∙ m.known) k
means_not_refused m (meaning.IsRefused.repeated {d = d} reads known repeat) =
    first_repeat_repeats repeat (ap (λ d. has_no_repeats (precedence_names (contents_of d))) (reads_same reads m.reads) ∙ m.once)

-- a text is refused in one way at most
pub refused_same : {text : List ℕ} {r q : TextRefusal} → IsRefused text r → IsRefused text q → r ≡ q
refused_same (meaning.IsRefused.syntax e) (meaning.IsRefused.syntax f) = ap Syntax (syntax_error_same e f)
refused_same (meaning.IsRefused.syntax e) (meaning.IsRefused.unknown reads k) = absurd (reads_no_error reads e)
refused_same (meaning.IsRefused.syntax e) (meaning.IsRefused.repeated reads known repeat) = absurd (reads_no_error reads e)
refused_same (meaning.IsRefused.unknown reads k) (meaning.IsRefused.syntax f) = absurd (reads_no_error reads f)
refused_same (meaning.IsRefused.unknown {w = w} reads k) (meaning.IsRefused.unknown {w = v} also l) =
    let same = ap (λ d. slice_get (unknown_names (contents_of d)) 0) (reads_same reads also) in
    let name : w ≡ v = cc in
    ap UnknownSymbol name
refused_same (meaning.IsRefused.unknown reads k) (meaning.IsRefused.repeated also known repeat) =
    absurd (none_unknown (ap (λ d. unknown_names (contents_of d)) (reads_same reads also) ∙ known) k)
refused_same (meaning.IsRefused.repeated reads known repeat) (meaning.IsRefused.syntax f) = absurd (reads_no_error reads f)
refused_same (meaning.IsRefused.repeated reads known repeat) (meaning.IsRefused.unknown also l) =
    absurd (none_unknown (ap (λ d. unknown_names (contents_of d)) (reads_same also reads) ∙ known) l)
refused_same (meaning.IsRefused.repeated {d = d} {w = w} reads known repeat) (meaning.IsRefused.repeated {d = e} {w = v} also unknown other) =
    let same : d ≡ e = reads_same reads also in
    ap DuplicatePrecedence (first_repeat_same (rw same at repeat) other)

-- a text means one list of parts at most
pub means_same : {text : List ℕ} {p q : Parts} → Means text p → Means text q → p ≡ q
means_same m n = sym m.parts ∙ ap (λ d. meant_parts (contents_of d)) (reads_same m.reads n.reads) ∙ n.parts

-- the two outcomes of a text
abbrev HasOutcome : List ℕ → Type 0
HasOutcome text = ((p : Parts) × Means text p) ⊎ ((r : TextRefusal) × IsRefused text r)

-- a document whose names are known
known_outcome : {text : List ℕ} {d : Document} → Reads text d → unknown_names (contents_of d) ≡ [] → HasOutcome text
known_outcome {d = d} reads known = elim (first_repeat_or_none (precedence_names (contents_of d))) [
  | inl once ↦ inl (meant_parts (contents_of d), record { document = d; reads = reads; known = known; once = once; parts = refl })
  | inr k ↦ inr (DuplicatePrecedence k.0, meaning.IsRefused.repeated reads known k.1)
]

-- a document, by its unknown names
document_outcome : {text : List ℕ} {d : Document} (ws : List (List ℕ)) → Reads text d → unknown_names (contents_of d) ≡ ws → HasOutcome text
document_outcome [] reads e = known_outcome reads e
document_outcome (w ∷ ws) reads e = inr (UnknownSymbol w, meaning.IsRefused.unknown reads (ap (λ vs. slice_get vs 0) e))

-- every text means some parts or is refused in some way
pub text_outcome : (text : List ℕ) → ((p : Parts) × Means text p) ⊎ ((r : TextRefusal) × IsRefused text r)
text_outcome text = elim (reads_or_error text) [
  | inl k ↦ document_outcome (unknown_names (contents_of k.0)) k.1 refl
  | inr k ↦ inr (Syntax k.0, meaning.IsRefused.syntax k.1)
]
