use Rattle.std.proofs.Common.{◌+◌, map, drop, sym, ◌∙◌, arith}
use Rattle.std.specs.String.{string_bytes}
use Rattle.lrreasons.proofs.Pieces.{first_left}
use Rattle.lrreasons.proofs.WordLines.{line_begun}
use Rattle.lrreasons.proofs.lines.push_line.Goals as goal

pub loop-word-init : goal.loop-word-init
loop-word-init c =
    line_begun c.args.indent c.min-hang.result c.saturating_sub-room.result (string_bytes c.args.text.now) (string_bytes c.push_spaces.new.text) (string_bytes c.push_str.new.self) c.args.label.now
    c.in_ok-push_spaces.ensures c.in_ok-push_str.ensures.bytes (omega (arith, c.min-hang.ensures, c.saturating_add-words_at.ensures, c.saturating_add.ensures)) (omega (arith, c.saturating_sub-room.ensures, c.saturating_sub.ensures)) (map string_bytes c.args.words.now)

pub loop-word-preserved : goal.loop-word-preserved
loop-word-preserved c =
    let words = c.args.words.now in
    let i = c.loop-word.word-index in
    let left = first_left string_bytes words i c.word-item.result c.loop-word-test.true c.word-item.is in
    let step = rw c.as_str.ensures.value at (c.in_ok-room.ensures (map string_bytes (drop (i + 1) words))) in
    sym step ∙ rw left at c.loop-word.invariant
