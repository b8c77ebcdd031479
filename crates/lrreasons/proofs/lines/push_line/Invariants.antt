use Rattle.std.proofs.Common.{◌≡◌, ◌++◌, map, drop}
use Rattle.std.specs.String.{string_bytes}
use Rattle.lrreasons.specs.Lines.{words_text, line_text}
use Rattle.lrreasons.proofs.lines.push_line.Given as goal

abbrev pub invariant-loop-word : goal.invariant-loop-word
invariant-loop-word l =
    string_bytes l.text ++ words_text l.hang l.room (map string_bytes (drop l.word-index l.words))
    ≡ string_bytes l.fn.text ++ line_text l.indent l.label (map string_bytes l.words)
