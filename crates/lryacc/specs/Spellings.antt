-- names that are spelt nearly as another one
use Rattle.std.specs.Prelude.{◌≡◌, ℕ, ◌<◌, ◌≤◌, ◌*◌, ◌⊎◌, List, Option, None, Some, IfSome, length, nat_eq, slice_get}
use Rattle.strsim.specs.Edits.{levenshtein_row}
use Rattle.lryacc.specs.declared.faults.FaultKind.{FaultKind}
use Rattle.lryacc.specs.declared.faults.FaultKind.TheVariants as fault
use Rattle.lryacc.specs.declared.lexemes.Lexeme.{Lexeme}
use Rattle.lryacc.specs.declared.places.Span.{Span}
use Rattle.lryacc.specs.declared.spellings.Near.{Near}
use Rattle.lryacc.specs.declared.symbols.Symbol.{Symbol}
use Rattle.lryacc.specs.declared.symbols.Symbols.{Symbols}
use Rattle.lryacc.specs.NamedSymbols.{name_of}

-- how many bytes at least have to be put in, left out or changed to make one name another
abbrev pub edits_between : List ℕ → List ℕ → ℕ
edits_between name other = levenshtein_row nat_eq name other (length other)

-- another name is near: at most a third of the name has to be changed for it
pub record IsNear (name other : List ℕ) : Type 0 where
  pub other_one : 0 < edits_between name other
  pub near : edits_between name other * 3 ≤ length name

-- the name of this number is near to a name
pub record IsNearAt (name other : List ℕ) (at : ℕ) (found : Near) : Type 0 where
  pub number : found.at ≡ at
  pub near : IsNear name other

-- the nearest one so far is that of before, or the name of this number
abbrev pub IsNearer : List ℕ → List ℕ → ℕ → Option Near → Option Near → Type 0
IsNearer name other at before now = (now ≡ before) ⊎ IfSome now (IsNearAt name other at)

-- the name by which a symbol is named first
abbrev pub symbol_name : Symbols → Symbol → List ℕ
symbol_name symbols symbol = name_of symbols.text.now symbols.dialect symbol.mention

-- a symbol of a file has a name that is near to a name
pub record IsNearSymbol (symbols : Symbols) (name : List ℕ) (found : Near) : Type 0 where
  pub symbol : Symbol
  pub there : slice_get symbols.list.items found.at ≡ Some symbol
  pub near : IsNear name (symbol_name symbols symbol)

-- a place is that at which a symbol of a file is named first whose name is near to a name
pub record IsProposed (symbols : Symbols) (name : List ℕ) (place : Span) : Type 0 where
  pub number : ℕ
  pub symbol : Symbol
  pub there : slice_get symbols.list.items number ≡ Some symbol
  pub at : symbol.mention.span ≡ place
  pub near : IsNear name (symbol_name symbols symbol)

-- where the name stands first that a fault proposes, if it proposes one
abbrev pub proposal : FaultKind → Option Span
proposal (fault.Undefined near) = near
proposal (fault.StartHasNoRule near) = near
proposal (fault.UnknownPrecedence near) = near
proposal _ = None

-- a name that stands first at a place is near to the one that stands at another place
pub record IsProposedAt (symbols : Symbols) (span place : Span) : Type 0 where
  pub lexeme : Lexeme
  pub at : lexeme.span ≡ span
  pub is : IsProposed symbols (name_of symbols.text.now symbols.dialect lexeme) place

-- a fault at a place proposes no name, or one that is near to that which stands there
abbrev pub ProposesNear : Symbols → FaultKind → Span → Type 0
ProposesNear symbols kind span = IfSome (proposal kind) (IsProposedAt symbols span)
