-- how it is told why nothing is concluded of a file
use Rattle.std.specs.Prelude.{◌≡◌, ℕ, ◌<◌, ◌-◌, ◌^◌, IfNone, IfSome, Bool, true, false, List, ◌++◌, codes, length, map, take, if◌then◌else◌}
use Rattle.lryacc.specs.declared.faults.Fault.{Fault}
use Rattle.lrdiagnostics.specs.Places.{TellsPlaces}
use Rattle.lrreport.specs.declared.known.Unread.{Unread}
use Rattle.lrreport.specs.declared.options.Options.{Options}
use Rattle.lrreport.specs.declared.options.Output.{Output}
use Rattle.lrreport.specs.declared.options.Output.TheVariants.{Json, Sarif}

-- what is told is lines: neither JSON nor SARIF
abbrev pub is_lines : Output → Bool
is_lines (Json grammar) = false
is_lines Sarif = false
is_lines output = true

-- how many faults are told one by one at the most
abbrev pub most_told : Options → ℕ
most_told options = if options.detail.all then 2 ^ 64 - 1 else 20

-- the first faults of a file of that name are told, each at its place
abbrev pub TellsFaults : Options → List ℕ → List ℕ → List Fault → List ℕ → Type 0
TellsFaults options name bytes faults text =
    TellsPlaces name bytes (map (λ fault. fault.span.start) (take (most_told options) faults)) text

-- a line tells what stands against the grammar of a file of that name
pub record TellsRefusal (name text : List ℕ) : Type 0 where
  pub why : List ℕ
  pub is : text ≡ name ++ (codes ": error: " ++ (why ++ codes "\n"))

-- why nothing is checked is told: what stands against the grammar, or else the first faults
pub record TellsUnread (options : Options) (unread : Unread) (text : List ℕ) : Type 0 where
  pub faults :
      IfNone unread.why
      (TellsFaults options unread.source.now.name.now unread.source.now.bytes.now
      unread.faults.now text)
  pub refusal : IfSome unread.why (λ why. TellsRefusal unread.source.now.name.now text)

-- one of both: there are faults, or the grammar is refused
pub data TellsWhy (options : Options) (name bytes text : List ℕ) : Type 0 where
  faults :
      (faults : List Fault) → 0 < length faults → TellsFaults options name bytes faults text
      → TellsWhy options name bytes text
  refusal : TellsRefusal name text → TellsWhy options name bytes text
