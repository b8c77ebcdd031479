-- Errors that are passed on from reading a text and from its parts.
use Rattle.std.proofs.Common.{ℕ, List}
use Rattle.lrparts.specs.declared.errors.GrammarError.{GrammarError}
use Rattle.lrparts.specs.declared.errors.GrammarError.TheVariants as error
use Rattle.lrspec.specs.texts.Parts.{Parts}
use Rattle.lrspec.specs.texts.Meaning.{Means}
use Rattle.lrparts.specs.Refusals.{IsRefusedBy}
use Rattle.lrtext.specs.declared.reader.ReadError.{ReadError}
use Rattle.lrtext.specs.declared.reader.ReadError.TheVariants as read_error
use Rattle.lrtext.specs.ReadErrors.{IsReadError}
use Rattle.lrparts.specs.TextErrors.{read_refusal_of, text_error_of, IsTextError}

-- what reading says against a text
pub read_cause : (most : ℕ) (text : List ℕ) (e : ReadError) → IsReadError text e → IsTextError most text (read_refusal_of e)
read_cause most text (read_error.Syntax n) h = h
read_cause most text (read_error.UnknownSymbol w) h = h
read_cause most text (read_error.DuplicatePrecedence w) h = h
read_cause most text read_error.Memory h = h

-- parts that are refused
pub parts_cause : (most : ℕ) (text : List ℕ) (p : Parts) (e : GrammarError) → Means text p → IsRefusedBy most p e → IsTextError most text (text_error_of e)
parts_cause most text p error.TooManyRules means h = record { parts = p; means = means; refused = h; not_memory = λ k. (cc) }
parts_cause most text p error.TooManyTokens means h = record { parts = p; means = means; refused = h; not_memory = λ k. (cc) }
parts_cause most text p error.TooManyProductions means h = record { parts = p; means = means; refused = h; not_memory = λ k. (cc) }
parts_cause most text p error.BodyTooLong means h = record { parts = p; means = means; refused = h; not_memory = λ k. (cc) }
parts_cause most text p error.SymbolOutOfRange means h = record { parts = p; means = means; refused = h; not_memory = λ k. (cc) }
parts_cause most text p error.EmptyRule means h = record { parts = p; means = means; refused = h; not_memory = λ k. (cc) }
parts_cause most text p error.ReservedName means h = record { parts = p; means = means; refused = h; not_memory = λ k. (cc) }
parts_cause most text p error.DuplicateName means h = record { parts = p; means = means; refused = h; not_memory = λ k. (cc) }
parts_cause most text p error.MixedLevel means h = record { parts = p; means = means; refused = h; not_memory = λ k. (cc) }
parts_cause most text p error.NoStart means h = record { parts = p; means = means; refused = h; not_memory = λ k. (cc) }
parts_cause most text p error.Memory means h = tt
