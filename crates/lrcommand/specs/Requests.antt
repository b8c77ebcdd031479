-- what the arguments ask for
use denote.Ref.{Bor}
use Rattle.std.specs.Prelude.{◌≡◌, ℕ, ◌<◌, ◌^◌, List, [], ◌∷◌, Option, None, Some, codes, option_map}
use Rattle.std.specs.Str.Parse.{IsNumeral, digits_value}
use Rattle.lrcommand.specs.declared.requests.Listing.{Listing}
use Rattle.lrcommand.specs.declared.requests.Listing.TheVariants.{Start, Core, Closed, Conflicts}
use Rattle.lrcommand.specs.declared.requests.Command.{Command}
use Rattle.lrcommand.specs.declared.requests.Command.TheVariants.{Print, Answer}
use Rattle.lrcommand.specs.declared.requests.Reply.{Reply}
use Rattle.lrcommand.specs.declared.requests.Reply.TheVariants.{Run, Tree}
use Rattle.lrcommand.specs.declared.requests.Source.{Source}
use Rattle.lrcommand.specs.declared.requests.Source.TheVariants.{File, StandardInput}

-- the name of the file from which is read; none for standard input
abbrev pub name_of : Source → Option (List ℕ)
name_of (File name) = Some name.now
name_of StandardInput = None

-- the bytes of the source, which are none where they could not be read
abbrev pub bytes_of : Option (Bor (List ℕ)) → Option (List ℕ)
bytes_of file = option_map (λ bytes. bytes.now) file

-- how a source is named in a fault line
abbrev pub source_text : Source → List ℕ
source_text (File name) = name.now
source_text StandardInput = codes "standard input"

-- the word that stands for what is printed
abbrev pub listing_name : Listing → List ℕ
listing_name Start = codes "start"
listing_name Core = codes "core"
listing_name Closed = codes "closed"
listing_name Conflicts = codes "conflicts"

-- the word that stands for what lines are answered by
abbrev pub reply_name : Reply → List ℕ
reply_name Run = codes "run"
reply_name Tree = codes "tree"

-- one decimal digit or more, and nothing else, whose value is this number of 64 bits
pub record WritesSteps (digits : List ℕ) (steps : ℕ) : Type 0 where
  pub numeral : IsNumeral 10 digits
  pub value : digits_value 10 digits ≡ steps
  pub fits : steps < 2 ^ 64

-- the arguments that ask for something: none at all for the start state of the grammar that
-- standard input holds; what is printed, and a file; or what lines are answered by, a file and a
-- number of steps
pub data Asks : List (List ℕ) → Command → Option (List ℕ) → Type 0 where
  alone : Asks [] (Print Start) None
  print : (listing : Listing) (file : List ℕ)
      → Asks (listing_name listing ∷ file ∷ []) (Print listing) (Some file)
  answer : (reply : Reply) (file digits : List ℕ) (steps : ℕ) → WritesSteps digits steps
      → Asks (reply_name reply ∷ file ∷ digits ∷ []) (Answer reply steps) (Some file)

-- the arguments ask for a command of which the fact holds
abbrev pub AsksSome : List (List ℕ) → (Command → Type 0) → Type 0
AsksSome args P =
    (command : Command) × (name : Option (List ℕ)) × Asks args command name × P command

-- if the command is to print something, the fact holds of that
abbrev pub IfPrint : Command → (Listing → Type 0) → Type 0
IfPrint (Print listing) P = P listing
IfPrint (Answer reply steps) P = Unit {0}

-- if the command is to answer lines, the fact holds of by what, and in how many steps at most
abbrev pub IfAnswer : Command → (Reply → ℕ → Type 0) → Type 0
IfAnswer (Print listing) P = Unit {0}
IfAnswer (Answer reply steps) P = P reply steps

-- the arguments ask for nothing
abbrev pub AsksNothing : List (List ℕ) → Type 0
AsksNothing args = (command : Command) (name : Option (List ℕ)) → ¬ (Asks args command name)
