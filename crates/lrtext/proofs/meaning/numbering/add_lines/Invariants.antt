use Rattle.std.proofs.Common.{◌≡◌, flat_map, take}
use Rattle.lrtext.specs.NumberedNames.{with_names}
use Rattle.lrtext.specs.StoredContents.{line_names_of}
use Rattle.lrtext.proofs.meaning.numbering.add_lines.Given as goal

abbrev pub invariant-loop-line : goal.invariant-loop-line
invariant-loop-line l = l.numbers ≡ with_names l.initial.numbers (flat_map line_names_of (take l.line-index l.lines))
