-- what is told of a file
use Rattle.std.specs.Prelude.{◌≡◌, ℕ, ◌<◌, List, Contains, vec_len}
use Rattle.lryacc.specs.declared.faults.Fault.{Fault}
use Rattle.lryacc.specs.declared.faults.FaultKind.{FaultKind}
use Rattle.lryacc.specs.declared.faults.FaultKind.TheVariants.{UselessProduction}
use Rattle.lryacc.specs.declared.file.FileRead.{FileRead}
use Rattle.lryacc.specs.declared.file.FileRead.TheVariants.{Grammar, Faults}
use Rattle.lryacc.specs.declared.places.Span.{Span}
use Rattle.lryacc.specs.ProductionPlaces.{IsPlaced}
use Rattle.lryacc.specs.Spans.{IsInside}

-- what is wrong with the file, or what it is warned of
abbrev pub told : FileRead → List Fault
told (Grammar file expected parser warnings) = warnings.items
told (Faults faults) = faults.items

-- what is told is one of these faults: of its kind, at its place if that lies in the text
pub record IsToldOf (text : List ℕ) (faults : List Fault) (fault : Fault) : Type 0 where
  pub given : Fault
  pub is : Contains faults given
  pub kind : fault.kind ≡ given.kind
  pub place : IsInside given.span text → fault.span ≡ given.span

-- a fault of a kind at a place
abbrev pub fault_at : FaultKind → Span → Fault
fault_at kind span = record { kind = kind; span = span }

-- a useless production at the place is warned of
abbrev pub IsUselessIn : List Fault → Span → Type 0
IsUselessIn warnings place = Contains warnings (fault_at UselessProduction place)

-- a file that gives no grammar has at least one fault
abbrev pub HasFaults : FileRead → Type 0
HasFaults (Grammar file expected parser warnings) = Unit {0}
HasFaults (Faults faults) = 0 < vec_len faults

-- the grammar has a place for each production
abbrev pub HasPlaces : FileRead → Type 0
HasPlaces (Grammar file expected parser warnings) = IsPlaced file
HasPlaces (Faults faults) = Unit {0}
