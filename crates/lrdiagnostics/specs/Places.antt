-- what is told of places: the line that says where one is, what stands behind it, and messages that begin with their places
use Rattle.std.specs.Prelude.{◌≡◌, ℕ, List, [], ◌∷◌, ◌++◌, codes, decimal, map, take}
use Rattle.std.specs.List.{flat_map, repeat}
use Rattle.lrwriter.specs.Texts.{Adds, Held}
use Rattle.lryacc.specs.declared.faults.Fault.{Fault}
use Rattle.lrdiagnostics.specs.declared.diagnostics.Message.{Message}
use Rattle.lrdiagnostics.specs.Positions.{line_of, front_of, EndsBefore}

-- something stands behind all that was there before
pub record AddsMore (old new : Held) : Type 0 where
  pub piece : List ℕ
  pub adds : Adds old new piece

-- behind blanks, where a place of a file of that name is
abbrev pub place_line : ℕ → List ℕ → ℕ → ℕ → List ℕ
place_line blanks name line column =
    repeat blanks (codes " ")
    ++ (codes " --> " ++ (name ++ (codes ":" ++ (decimal line ++ (codes ":" ++ (decimal column ++ codes "\n"))))))

-- such a line is added for a place of a text, and more behind it
pub record AddsPlace (old new : Held) (name text : List ℕ) (at : ℕ) : Type 0 where
  pub blanks : ℕ
  pub column : ℕ
  pub counted : EndsBefore (front_of text at) 1 column
  pub behind : List ℕ
  pub adds : Adds old new (place_line blanks name (line_of text at) column ++ behind)

-- by which words a message begins: the name of the file, and line and column of a place
abbrev pub place_words : List ℕ → ℕ → ℕ → List ℕ
place_words name line column =
    name ++ (codes ":" ++ (decimal line ++ (codes ":" ++ (decimal column ++ codes ": "))))

-- words tell these places of a text, one behind the other
pub data TellsPlaces (name text : List ℕ) : List ℕ → List ℕ → Type 0 where
  -- none of them, whatever the words are
  none : {words : List ℕ} → TellsPlaces name text [] words
  -- a place, and the others behind it
  more :
      {at column : ℕ} {ats behind : List ℕ} (before : List ℕ)
      → EndsBefore (front_of text at) 1 column → TellsPlaces name text ats behind
      → TellsPlaces name text (at ∷ ats)
      (before ++ (place_words name (line_of text at) column ++ behind))

-- such words are added
pub record AddsPlaces (old new : Held) (name text ats : List ℕ) : Type 0 where
  pub words : List ℕ
  pub tells : TellsPlaces name text ats words
  pub adds : Adds old new words

-- the first place of a message, if it has one
abbrev pub first_place : Message → List ℕ
first_place m = map (λ span. span.start) (take 1 m.places.items)

-- those of messages
abbrev pub first_places : List Message → List ℕ
first_places ms = flat_map first_place ms

-- the messages are of these faults, each at its place
abbrev pub AreOf : List Message → List Fault → Type 0
AreOf ms faults = map (λ m. m.places.items) ms ≡ map (λ fault. fault.span ∷ []) faults
