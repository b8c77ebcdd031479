-- what certifies that an entry is decided
use Rattle.std.specs.Prelude.{ℕ, ◌<◌, false, List, [], length, Option, Some, Contains}
use Rattle.lrspec.specs.grammars.Grammar.{Token, Grammar, body_of, rest}
use Rattle.lrspec.specs.grammars.ItemSets.{HasItem, IsBefore}
use Rattle.lrspec.specs.merging.Graph.{Graph, core_of, closed_of}
use Rattle.lrspec.specs.merging.WeakCompatibility.{SameItems}
use Rattle.lrconflicts.specs.Moves.{Move, Shift, Reduce}
use Rattle.lrdecided.specs.Nodes.{Side, Node}
use Rattle.lrdecided.specs.Rules.{IsSettled, Proceeds}

-- a way that goes on with the move in the state `s` on the token `t` stands so
pub data StandsBefore (g : Grammar) (h : Graph) (s t : ℕ) : Move → Side → Type 0 where
  -- at the end of the production by which it reduces
  reduce :
      (p : ℕ)
      → StandsBefore g h s t (Reduce p)
      (record { production = p; dot = length (body_of g p); symbols = []; is_cut = false })
  -- in an item of the state before the token that it shifts, with all that is behind the dot to come
  shift :
      (p d : ℕ) → HasItem (closed_of h s) p d → IsBefore g p d (Token t)
      → StandsBefore g h s t Shift
      (record { production = p; dot = d; symbols = rest g p d; is_cut = false })

-- the nodes certify that the entry of the state `s` and the token `t` for the moves `m` and `n` is decided, by so many
-- tokens, or without a number by all that come
pub record IsCertificate
    (g : Grammar) (h : Graph) (s t : ℕ) (m n : Move) (left : Option ℕ) (nodes : List Node) : Type 0
  where
    -- the states with the core of the state `s`
    pub states : List ℕ
    pub cores : (q : ℕ) → q < length h → SameItems (core_of h q) (core_of h s) → Contains states q
    -- however the ways begin, the node is impossible or comes to one that is listed
    pub begins :
        (x y : Side) → StandsBefore g h s t m x → StandsBefore g h s t n y
        → IsSettled g nodes
        (record { one = x; other = y; states = states; next = Some t; left = left })
    -- and so do all moves of each node that is listed
    pub proceeds : (a : Node) → Contains nodes a → Proceeds g h (IsSettled g nodes) a
