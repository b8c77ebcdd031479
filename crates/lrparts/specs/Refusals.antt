-- Which error tells which cause of refusal.
use Rattle.std.specs.Prelude.{ℕ, ◌<◌}
use Rattle.lrparts.specs.declared.errors.GrammarError.{GrammarError}
use Rattle.lrparts.specs.declared.errors.GrammarError.TheVariants as error
use Rattle.lrspec.specs.texts.Parts.{Parts, Cause, IsRefusal}

-- the parts are refused so: by the cause of least number that holds, or memory was refused
abbrev pub IsRefusedBy : ℕ → Parts → GrammarError → Type 0
IsRefusedBy most ps error.TooManyRules = IsRefusal most ps 1
IsRefusedBy most ps error.TooManyTokens = IsRefusal most ps 2
IsRefusedBy most ps error.TooManyProductions = IsRefusal most ps 3
IsRefusedBy most ps error.BodyTooLong = IsRefusal most ps 4
IsRefusedBy most ps error.SymbolOutOfRange = IsRefusal most ps 5
IsRefusedBy most ps error.EmptyRule = IsRefusal most ps 6
IsRefusedBy most ps error.ReservedName = IsRefusal most ps 7
IsRefusedBy most ps error.DuplicateName = IsRefusal most ps 8
IsRefusedBy most ps error.MixedLevel = IsRefusal most ps 9
IsRefusedBy most ps error.NoStart = IsRefusal most ps 10
IsRefusedBy most ps error.Memory = Unit {0}

-- none of the first five causes holds, which are those that are found before memory is asked for
abbrev pub NoEarlyCause : ℕ → Parts → Type 0
NoEarlyCause most ps = (n : ℕ) → n < 6 → Cause most ps n → ⊥
