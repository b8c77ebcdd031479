use Rattle.std.proofs.Common.{◌≡◌, ◌+◌, ◌-◌, ◌≤◌, slice_index}
use Rattle.lryacc.specs.TagsRead.{AreOpen}
use Rattle.lryacc.proofs.lexemes.tag_end.Given as goal

abbrev pub invariant-loop-at : goal.invariant-loop-at
invariant-loop-at l = AreOpen l.text (l.from + 1) l.at l.depth
    × (l.before ≡ slice_index l.text (l.at - 1))
    × (l.from + 1 + l.depth ≤ l.at)
