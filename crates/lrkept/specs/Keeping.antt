-- how well what cells refuse is kept
use Rattle.std.specs.Prelude.{◌≢◌, ℕ, ◌<◌, List, Contains}
use Rattle.lrspec.specs.grammars.Grammar.{Grammar, token_count}
use Rattle.lrspec.specs.merging.Graph.{Graph}
use Rattle.lrspec.specs.tables.Table as table
use Rattle.lrspec.specs.tables.Table.{Table, IsContender, action_of}
use Rattle.lrconflicts.specs.Moves.{Move, candidate_of}
use Rattle.lrlosses.specs.declared.exactness.Exactness.{Exactness}
use Rattle.lrlosses.specs.declared.exactness.Exactness.TheVariants as known
use Rattle.lrexchange.specs.Positions.{Position}
use Rattle.lrkept.specs.declared.checking.Certificate.{Certificate}
use Rattle.lrexchange.specs.StoredPositions.{positions_of}
use Rattle.lrexchange.specs.Exchanges.{AreWon, IsCertificate}
use Rattle.lrkept.specs.Kept.{IsKept}

-- the move is kept in the cell; or it is if that is no error; or nothing is known
abbrev pub IsKeptAs : Exactness → Grammar → Graph → Table → ℕ → ℕ → Move → Type 0
IsKeptAs known.Exact g h b s t m = IsKept g h b s t m
IsKeptAs known.ButAtErrors g h b s t m = action_of b s t ≢ table.Action.Error → IsKept g h b s t m
IsKeptAs known.Open g h b s t m = Unit {0}

-- this is known of the move, if it contends for the cell
abbrev pub IsKnownOf : Exactness → Grammar → Graph → Table → ℕ → ℕ → Move → Type 0
IsKnownOf e g h b s t m = IsContender g h s t (candidate_of m) → IsKeptAs e g h b s t m

-- and of each of the moves
abbrev pub AreKnownOf : Exactness → Grammar → Graph → Table → ℕ → ℕ → List Move → Type 0
AreKnownOf e g h b s t moves = (m : Move) → Contains moves m → IsKnownOf e g h b s t m

-- and of all moves in the cell
abbrev pub IsCellKeptAs : Exactness → Grammar → Graph → Table → ℕ → ℕ → Type 0
IsCellKeptAs e g h b s t = (m : Move) → IsKnownOf e g h b s t m

-- and so in each cell of the state
abbrev pub IsStateKeptAs : Exactness → Grammar → Graph → Table → ℕ → Type 0
IsStateKeptAs e g h b s = (t : ℕ) → t < token_count g → IsCellKeptAs e g h b s t

-- what is known where this is known of some, and that of others, is known of all of them
pub record IsKnownOfBoth (one other both : Exactness) : Type 0 where
  pub of_one : (g : Grammar) (h : Graph) (b : Table) (s t : ℕ) (m : Move) → IsKeptAs one g h b s t m → IsKeptAs both g h b s t m
  pub of_other : (g : Grammar) (h : Graph) (b : Table) (s t : ℕ) (m : Move) → IsKeptAs other g h b s t m → IsKeptAs both g h b s t m

-- each position of the certificate is won
abbrev pub IsWon : Grammar → Graph → Certificate → Type 0
IsWon g h c = AreWon g h (positions_of c.listing.positions.items)

-- positions certify that in the cell the second move may be made for the first
abbrev pub IsCertified : Grammar → Graph → ℕ → ℕ → Move → Move → Type 0
IsCertified g h s t theirs ours =
    (positions : List Position) × IsCertificate g h s t theirs ours positions
