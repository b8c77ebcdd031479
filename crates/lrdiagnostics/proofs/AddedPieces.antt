-- pieces that are added, of which is said only that there are some, and what stands behind the line of a place
use Rattle.std.proofs.Common.{◌≡◌, ℕ, List, [], ◌++◌, append-nil, subst, sym}
use Rattle.lrwriter.specs.Texts.{Adds, Held}
use Rattle.lrwriter.proofs.Pieces.{adds_none, adds_both}
use Rattle.lrdiagnostics.specs.Positions.{line_of, front_of, EndsBefore}
use Rattle.lrdiagnostics.specs.Places.{AddsMore, AddsPlace, place_line}

-- nothing
pub no_more : (text : Held) → AddsMore text text
no_more text = record { piece = []; adds = adds_none text }

-- a known piece
pub more_of : {old new : Held} {piece : List ℕ} → Adds old new piece → AddsMore old new
more_of {old} {new} {piece} adds = record { piece = piece; adds = adds }

-- one behind the other
pub more_both : {old middle new : Held} → AddsMore old middle → AddsMore middle new → AddsMore old new
more_both one other = record { piece = one.piece ++ other.piece; adds = adds_both one.adds other.adds }

-- the line of a place alone
pub place_alone :
    {old new : Held} {name text : List ℕ} {at line column : ℕ} (blanks : ℕ)
    → line ≡ line_of text at → EndsBefore (front_of text at) 1 column
    → Adds old new (place_line blanks name line column) → AddsPlace old new name text at
place_alone {old} {new} {name} {text} {at} {line} {column} blanks is counted adds = record {
  blanks = blanks;
  column = column;
  counted = counted;
  behind = [];
  adds = subst (λ n. Adds old new (place_line blanks name n column ++ [])) is
      (subst (Adds old new) (sym (append-nil (place_line blanks name line column))) adds);
}
