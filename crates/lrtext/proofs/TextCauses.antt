-- the outcome of reading and of meaning is that of the text
use Rattle.std.proofs.Common.{◌≡◌, ℕ, List, [], Some, subst, slice_get}
use Rattle.std.specs.String.{string_bytes}
use Rattle.lrtext.specs.declared.reader.ReadError.{ReadError}
use Rattle.lrtext.specs.declared.reader.ReadError.TheVariants as read_error
use Rattle.lrspec.specs.texts.Parts.{Parts}
use Rattle.lrspec.specs.texts.Meaning as meaning
use Rattle.lrspec.specs.texts.Meaning.{Contents, Means, unknown_names, precedence_names, IsFirstRepeat}
use Rattle.lrtext.specs.ReadErrors.{HasContents, IsSyntaxError, IsReadError}
use Rattle.lrtext.specs.MeantParts.{AreMeant, IsCauseIn}

-- a text that is no document
pub read_cause : (text : List ℕ) (e : ReadError) → IsSyntaxError text e → IsReadError text e
read_cause text (read_error.Syntax n) h = meaning.IsRefused.syntax h
read_cause text (read_error.UnknownSymbol w) h = absurd h
read_cause text (read_error.DuplicatePrecedence w) h = absurd h
read_cause text read_error.Memory h = tt

-- a document with an unknown or a repeated name
pub contents_cause : (text : List ℕ) (s : Contents) (e : ReadError) → HasContents text s → IsCauseIn s e → IsReadError text e
contents_cause text s (read_error.Syntax n) has h = absurd h
contents_cause text s (read_error.UnknownSymbol w) has h = meaning.IsRefused.unknown has.reads (subst (λ (s : Contents). slice_get (unknown_names s) 0 ≡ Some (string_bytes w)) has.contents h)
contents_cause text s (read_error.DuplicatePrecedence w) has (known, repeat) =
    meaning.IsRefused.repeated has.reads (subst (λ (s : Contents). unknown_names s ≡ []) has.contents known) (subst (λ (s : Contents). IsFirstRepeat (precedence_names s) (string_bytes w)) has.contents repeat)
contents_cause text s read_error.Memory has h = tt

-- the parts that a document means are those that its text means
pub contents_mean : (text : List ℕ) (s : Contents) (p : Parts) → HasContents text s → AreMeant s p → Means text p
contents_mean text s p has meant =
    let here : AreMeant (meaning.contents_of has.document) p = subst (λ (s : Contents). AreMeant s p) has.contents meant in
    record { document = has.document; reads = has.reads; known = here.known; once = here.once; parts = here.parts }
