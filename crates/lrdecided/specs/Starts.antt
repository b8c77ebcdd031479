-- nodes at which two ways may begin
use Rattle.std.specs.Prelude.{ℕ, ◌<◌, false, List, [], length, Option, Some, Contains}
use Rattle.lrspec.specs.grammars.Grammar.{Token, Grammar, body_of, rest}
use Rattle.lrspec.specs.grammars.ItemSets.{IsBefore}
use Rattle.lrspec.specs.merging.Graph.{Graph, core_of}
use Rattle.lrspec.specs.merging.WeakCompatibility.{SameItems}
use Rattle.lrconflicts.specs.Moves.{Move}
use Rattle.lrdecided.specs.Certificates.{StandsBefore}
use Rattle.lrdecided.specs.Nodes.{Side, Node}

-- the states with the core of the state `s` are among these
abbrev pub HasCores : Graph → ℕ → List ℕ → Type 0
HasCores h s states =
    (q : ℕ) → q < length h → SameItems (core_of h q) (core_of h s) → Contains states q

-- the sides that were listed are listed
abbrev pub KeepsSides : List Side → List Side → Type 0
KeepsSides old new = (x : Side) → Contains old x → Contains new x

-- where the item stands before the token, the side at its dot is listed
abbrev pub HasSide : Grammar → ℕ → ℕ → ℕ → List Side → Type 0
HasSide g p d t sides =
    IsBefore g p d (Token t)
    → Contains sides (record { production = p; dot = d; symbols = rest g p d; is_cut = false })

-- the side at the end of a production
abbrev pub reduced : Grammar → ℕ → Side
reduced g p =
    record { production = p; dot = length (body_of g p); symbols = []; is_cut = false }

-- all sides of ways that go on with the move are listed
abbrev pub HasSides : Grammar → Graph → ℕ → ℕ → Move → List Side → Type 0
HasSides g h s t m sides = (x : Side) → StandsBefore g h s t m x → Contains sides x

-- the node at which the ways begin
abbrev pub start_of : Side → Side → List ℕ → ℕ → Option ℕ → Node
start_of x y states t left =
    record { one = x; other = y; states = states; next = Some t; left = left }

-- the nodes of the one side with each of the others are listed
abbrev pub HasStartsOf : Side → List Side → List ℕ → ℕ → Option ℕ → List Node → Type 0
HasStartsOf x others states t left nodes =
    (y : Side) → Contains others y → Contains nodes (start_of x y states t left)

-- and so of each of the first sides
abbrev pub HasStarts : List Side → List Side → List ℕ → ℕ → Option ℕ → List Node → Type 0
HasStarts ones others states t left nodes =
    (x : Side) → Contains ones x → HasStartsOf x others states t left nodes
