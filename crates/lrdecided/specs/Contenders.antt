-- the moves that contend for cells, and when each two of them are decided
use Rattle.std.specs.Prelude.{◌≢◌, ℕ, ◌<◌, Bool, IsTrue, List, map, length, Contains}
use Rattle.lrspec.specs.grammars.Grammar.{Grammar, body_of, token_count}
use Rattle.lrspec.specs.grammars.ItemSets.{Items, LooksIn}
use Rattle.lrspec.specs.merging.Graph.{Graph}
use Rattle.lrspec.specs.tables.Conflicts.{IsAcceptContested}
use Rattle.lrspec.specs.tables.Table.{IsContender}
use Rattle.lrbits.specs.Bits.{bit}
use Rattle.lrconflicts.specs.Moves.{Move, Reduce, candidate_of}
use Rattle.lrdecided.specs.declared.contending.Complete.{Complete}
use Rattle.lrdecided.specs.Decided.{IsDecided}

-- a complete item by its production, with its lookaheads
abbrev pub complete_of : Complete → ℕ × List Bool
complete_of c = (c.production.0, c.tokens.now)

-- complete items
abbrev pub completes_of : List Complete → List (ℕ × List Bool)
completes_of cs = map complete_of cs

-- the complete items that were listed are listed
abbrev pub KeepsCompletes : List (ℕ × List Bool) → List (ℕ × List Bool) → Type 0
KeepsCompletes old new = (c : ℕ × List Bool) → Contains old c → Contains new c

-- the complete item of the production is listed, which looks at the token
abbrev pub HasComplete : List (ℕ × List Bool) → ℕ → ℕ → Type 0
HasComplete cs p t = (v : List Bool) × Contains cs (p, v) × IsTrue (bit v t)

-- each complete item of the item set that looks at a token is listed
abbrev pub HasCompletes : Grammar → Items → List (ℕ × List Bool) → Type 0
HasCompletes g a cs = (p t : ℕ) → LooksIn a p (length (body_of g p)) t → HasComplete cs p t

-- the moves that were listed are listed
abbrev pub KeepsMoves : List Move → List Move → Type 0
KeepsMoves old new = (m : Move) → Contains old m → Contains new m

-- the reduction by each of the complete items that looks at the token is listed
abbrev pub HasReductions : List (ℕ × List Bool) → ℕ → List Move → Type 0
HasReductions cs t moves = (p : ℕ) → HasComplete cs p t → Contains moves (Reduce p)

-- each move that contends for the cell is listed
abbrev pub HasContenders : Grammar → Graph → ℕ → ℕ → List Move → Type 0
HasContenders g h s t moves = (m : Move) → IsContender g h s t (candidate_of m) → Contains moves m

-- the move and each of the others are decided in the cell
abbrev pub IsDecidedAgainst : Grammar → Graph → ℕ → ℕ → Move → List Move → Type 0
IsDecidedAgainst g h s t m others =
    (n : Move) → Contains others n → m ≢ n → IsDecided g h s t m n

-- each two of the moves are decided in the cell
abbrev pub ArePairsDecided : Grammar → Graph → ℕ → ℕ → List Move → Type 0
ArePairsDecided g h s t moves = (m : Move) → Contains moves m → IsDecidedAgainst g h s t m moves

-- each two contenders of the cell are decided
abbrev pub IsCellDecided : Grammar → Graph → ℕ → ℕ → Type 0
IsCellDecided g h s t =
    (m n : Move) → m ≢ n
    → IsContender g h s t (candidate_of m) → IsContender g h s t (candidate_of n)
    → IsDecided g h s t m n

-- and so in each cell of the state
abbrev pub IsStateDecided : Grammar → Graph → ℕ → Type 0
IsStateDecided g h s = (t : ℕ) → t < token_count g → IsCellDecided g h s t

-- nothing contends with accepting, as in each grammar that has a table
abbrev pub AcceptsAlone : Grammar → Type 0
AcceptsAlone g = (p : ℕ) → ¬ (IsAcceptContested g p)
