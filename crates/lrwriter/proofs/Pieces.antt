-- pieces that are added one behind another
use Rattle.std.proofs.Common.{◌≡◌, ℕ, zero, suc, ◌+◌, List, [], ◌++◌, append-nil, append_assoc, add-one, ap, sym, ◌∙◌}
use Rattle.std.specs.List.{repeat}
use Rattle.lrwriter.specs.Texts.{Adds, Held}

-- nothing is added to a text that stays as it is
pub adds_none : (text : Held) → Adds text text []
adds_none text = record { whole = λ w. w; bytes = λ w. sym (append-nil text.bytes) }

-- two pieces one behind the other are one piece
pub adds_both : {old middle new : Held} {one other : List ℕ} → Adds old middle one → Adds middle new other → Adds old new (one ++ other)
adds_both {old} {middle} {new} {one} {other} first second = record {
  whole = λ w. first.whole (second.whole w);
  bytes = λ w. second.bytes w ∙ ap (λ all. all ++ other) (first.bytes (second.whole w)) ∙ append_assoc old.bytes one other;
}

more : (times : ℕ) (piece : List ℕ) → repeat (suc times) piece ≡ repeat times piece ++ piece
more zero piece = append-nil piece
more (suc times) piece = ap (λ all. piece ++ all) (more times piece) ∙ sym (append_assoc piece (repeat times piece) piece)

-- the same piece once more
pub repeat_more : (times : ℕ) (piece : List ℕ) → repeat (times + 1) piece ≡ repeat times piece ++ piece
repeat_more times piece = rw add-one (more times piece)
