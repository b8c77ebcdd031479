-- the causes of refusal one after the other: none of the first ones holds, or none at all
use Rattle.std.proofs.Common.{◌≡◌, ℕ, zero, suc, ◌<◌, ◌≤◌, List, [], ◌∷◌, get_or, length, subst, ⊎_elim, arith}
use Rattle.std.proofs.lemmas.Bool.{cases_lt}
use Rattle.lrspec.specs.texts.Parts.{Parts, TooManyRules, TooManyTokens, TooManyProductions, BodyTooLong, SymbolOutOfRange, EmptyRule, ReservedName, DuplicateName, MixedLevel, NoStart, Cause, NoCause, IsRefusal}
use Rattle.lrspec.specs.texts.Parts as parts

-- what the causes say, in order; no cause has the number 0
abbrev pub statements : ℕ → Parts → List (Type 0)
statements most ps =
    ⊥ ∷ TooManyRules most ps ∷ TooManyTokens most ps ∷ TooManyProductions most ps ∷ BodyTooLong most ps ∷ SymbolOutOfRange ps ∷ EmptyRule ps ∷ ReservedName ps ∷ DuplicateName ps ∷ MixedLevel ps ∷ NoStart ps ∷ []

-- what the cause of a number says
pub said_by : (most : ℕ) (ps : Parts) (n : ℕ) → Cause most ps n → get_or (statements most ps) n ⊥
said_by most ps n (parts.Cause.too_many_rules h) = h
said_by most ps n (parts.Cause.too_many_tokens h) = h
said_by most ps n (parts.Cause.too_many_productions h) = h
said_by most ps n (parts.Cause.body_too_long h) = h
said_by most ps n (parts.Cause.symbol_out_of_range h) = h
said_by most ps n (parts.Cause.empty_rule h) = h
said_by most ps n (parts.Cause.reserved_name h) = h
said_by most ps n (parts.Cause.duplicate_name h) = h
said_by most ps n (parts.Cause.mixed_level h) = h
said_by most ps n (parts.Cause.no_start h) = h

-- no cause of a number below `n` holds
abbrev pub NoneBelow : ℕ → Parts → ℕ → Type 0
NoneBelow most ps n = (m : ℕ) → m < n → Cause most ps m → ⊥

pub none_below_one : (most : ℕ) (ps : Parts) → NoneBelow most ps 1
none_below_one most ps zero l c = said_by most ps 0 c
none_below_one most ps (suc m) l c = omega arith

-- one cause more that does not hold
pub none_below_more : (most : ℕ) (ps : Parts) (n : ℕ) → NoneBelow most ps n → (get_or (statements most ps) n ⊥ → ⊥) → NoneBelow most ps (suc n)
none_below_more most ps n before here m l c =
    ⊎_elim (λ (b : m < n). before m b c) (λ (e : n ≤ m). let is : m ≡ n = omega arith in here (said_by most ps n (subst (Cause most ps) is c))) (cases_lt m n)

-- a list of statements says nothing past its end
nothing_past : (ts : List (Type 0)) (n : ℕ) → length ts ≤ n → get_or ts n ⊥ → ⊥
nothing_past [] n l h = h
nothing_past (t ∷ ts) zero l h = omega arith
nothing_past (t ∷ ts) (suc n) l h = nothing_past ts n (omega arith) h

-- where none of the ten holds, no cause does
pub no_cause_from_none_below : (most : ℕ) (ps : Parts) → NoneBelow most ps 11 → NoCause most ps
no_cause_from_none_below most ps before n c =
    ⊎_elim (λ (b : n < 11). before n b c) (λ (e : 11 ≤ n). nothing_past (statements most ps) n e (said_by most ps n c)) (cases_lt n 11)

-- the first causes, none of which holds
pub none_below_2 : (most : ℕ) (ps : Parts) → (TooManyRules most ps → ⊥) → NoneBelow most ps 2
none_below_2 most ps a = none_below_more most ps 1 (none_below_one most ps) a

pub none_below_3 : (most : ℕ) (ps : Parts) → (TooManyRules most ps → ⊥) → (TooManyTokens most ps → ⊥) → NoneBelow most ps 3
none_below_3 most ps a b = none_below_more most ps 2 (none_below_2 most ps a) b

pub none_below_4 : (most : ℕ) (ps : Parts) → (TooManyRules most ps → ⊥) → (TooManyTokens most ps → ⊥) → (TooManyProductions most ps → ⊥) → NoneBelow most ps 4
none_below_4 most ps a b c = none_below_more most ps 3 (none_below_3 most ps a b) c

pub none_below_5 : (most : ℕ) (ps : Parts) → (TooManyRules most ps → ⊥) → (TooManyTokens most ps → ⊥) → (TooManyProductions most ps → ⊥) → (BodyTooLong most ps → ⊥) → NoneBelow most ps 5
none_below_5 most ps a b c d = none_below_more most ps 4 (none_below_4 most ps a b c) d

pub none_below_6 : (most : ℕ) (ps : Parts) → (TooManyRules most ps → ⊥) → (TooManyTokens most ps → ⊥) → (TooManyProductions most ps → ⊥) → (BodyTooLong most ps → ⊥) → (SymbolOutOfRange ps → ⊥) → NoneBelow most ps 6
none_below_6 most ps a b c d e = none_below_more most ps 5 (none_below_5 most ps a b c d) e

pub none_below_7 : (most : ℕ) (ps : Parts) → (TooManyRules most ps → ⊥) → (TooManyTokens most ps → ⊥) → (TooManyProductions most ps → ⊥) → (BodyTooLong most ps → ⊥) → (SymbolOutOfRange ps → ⊥) → (EmptyRule ps → ⊥) → NoneBelow most ps 7
none_below_7 most ps a b c d e f = none_below_more most ps 6 (none_below_6 most ps a b c d e) f

pub none_below_8 : (most : ℕ) (ps : Parts) → (TooManyRules most ps → ⊥) → (TooManyTokens most ps → ⊥) → (TooManyProductions most ps → ⊥) → (BodyTooLong most ps → ⊥) → (SymbolOutOfRange ps → ⊥) → (EmptyRule ps → ⊥) → (ReservedName ps → ⊥) → NoneBelow most ps 8
none_below_8 most ps a b c d e f g = none_below_more most ps 7 (none_below_7 most ps a b c d e f) g

pub none_below_9 : (most : ℕ) (ps : Parts) → (TooManyRules most ps → ⊥) → (TooManyTokens most ps → ⊥) → (TooManyProductions most ps → ⊥) → (BodyTooLong most ps → ⊥) → (SymbolOutOfRange ps → ⊥) → (EmptyRule ps → ⊥) → (ReservedName ps → ⊥) → (DuplicateName ps → ⊥) → NoneBelow most ps 9
none_below_9 most ps a b c d e f g h = none_below_more most ps 8 (none_below_8 most ps a b c d e f g) h

pub none_below_10 : (most : ℕ) (ps : Parts) → (TooManyRules most ps → ⊥) → (TooManyTokens most ps → ⊥) → (TooManyProductions most ps → ⊥) → (BodyTooLong most ps → ⊥) → (SymbolOutOfRange ps → ⊥) → (EmptyRule ps → ⊥) → (ReservedName ps → ⊥) → (DuplicateName ps → ⊥) → (MixedLevel ps → ⊥) → NoneBelow most ps 10
none_below_10 most ps a b c d e f g h i = none_below_more most ps 9 (none_below_9 most ps a b c d e f g h) i

pub none_below_11 : (most : ℕ) (ps : Parts) → (TooManyRules most ps → ⊥) → (TooManyTokens most ps → ⊥) → (TooManyProductions most ps → ⊥) → (BodyTooLong most ps → ⊥) → (SymbolOutOfRange ps → ⊥) → (EmptyRule ps → ⊥) → (ReservedName ps → ⊥) → (DuplicateName ps → ⊥) → (MixedLevel ps → ⊥) → (NoStart ps → ⊥) → NoneBelow most ps 11
none_below_11 most ps a b c d e f g h i j = none_below_more most ps 10 (none_below_10 most ps a b c d e f g h i) j
