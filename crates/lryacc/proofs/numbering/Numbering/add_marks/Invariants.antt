use Rattle.std.proofs.Common.{take}
use Rattle.lryacc.specs.BodyProductions.{AreRelated, IsMarkOf}
use Rattle.lryacc.specs.Numbered.{AddsNumbers, names_of}
use Rattle.lryacc.proofs.numbering.Numbering.add_marks.Given as goal

abbrev pub invariant-loop-start : goal.invariant-loop-start
invariant-loop-start l = record {
  added : AddsNumbers l.initial.self l.self;
  marks : AreRelated (IsMarkOf (names_of l.self)) (take l.start-index l.starts) l.marks.items;
}
