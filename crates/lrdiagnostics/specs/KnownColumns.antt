-- places of a file of which the column is known
use Rattle.std.specs.Prelude.{◌≡◌, ℕ, ◌≤◌, length, List, take, drop}
use Rattle.lrdiagnostics.specs.Positions.{line_of, front_of, EndsBefore}

-- what stands behind a place in its line is counted from that column on as it is from the line's beginning on
pub record IsKnown (text : List ℕ) (at column : ℕ) : Type 0 where
  pub within : at ≤ length text
  pub goes_on :
      (end counted behind : ℕ)
      → at ≤ end → line_of text at ≡ line_of text end
      → EndsBefore (front_of text end) 1 counted
      → EndsBefore (drop at (take end text)) column behind
      → counted ≡ behind
