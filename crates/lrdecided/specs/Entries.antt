-- entries of cells, and when one is certified
use Rattle.std.specs.Prelude.{ℕ, List, Option}
use Rattle.lrspec.specs.grammars.Grammar.{Grammar}
use Rattle.lrspec.specs.merging.Graph.{Graph}
use Rattle.lrconflicts.specs.Moves.{Move}
use Rattle.lrconflicts.specs.StoredMoves.{move_of}
use Rattle.lrdecided.specs.declared.decided.Entry as stored
use Rattle.lrdecided.specs.Certificates.{IsCertificate}
use Rattle.lrdecided.specs.Decided.{IsDecided, IsDecidedBy}
use Rattle.lrdecided.specs.Nodes.{Side, Node}
use Rattle.lrgrammar.specs.Symbols.{number_of}
use Rattle.lrdecided.specs.Starts.{HasCores, HasSides, HasStarts}

-- two moves that meet in a state on a token
pub record Entry : Type 0 where
  pub state : ℕ
  pub token : ℕ
  pub one : Move
  pub other : Move

-- an entry by its numbers
abbrev pub entry_of : stored.Entry → Entry
entry_of e = record {
  state = e.state.0;
  token = e.token.0;
  one = move_of number_of e.one;
  other = move_of number_of e.other;
}

-- all nodes are listed at which ways begin that go on with its moves
pub record AreStarts (g : Grammar) (h : Graph) (e : Entry) (left : Option ℕ) (nodes : List Node) : Type 0 where
  -- the states in which they may be
  pub states : List ℕ
  pub cores : HasCores h e.state states
  -- how the ways may stand there
  pub ones : List Side
  pub others : List Side
  pub all_ones : HasSides g h e.state e.token e.one ones
  pub all_others : HasSides g h e.state e.token e.other others
  pub starts : HasStarts ones others states e.token left nodes

-- some nodes certify that it is decided, by so many tokens, or without a number by all that come
abbrev pub IsCertified : Grammar → Graph → Entry → Option ℕ → Type 0
IsCertified g h e left =
    (nodes : List Node) × IsCertificate g h e.state e.token e.one e.other left nodes

-- it is decided
abbrev pub IsDecidedAt : Grammar → Graph → Entry → Type 0
IsDecidedAt g h e = IsDecided g h e.state e.token e.one e.other

-- it is decided by so many tokens
abbrev pub IsDecidedAtBy : Grammar → Graph → Entry → ℕ → Type 0
IsDecidedAtBy g h e k = IsDecidedBy g h e.state e.token e.one e.other k
