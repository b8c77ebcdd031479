use Rattle.std.proofs.Common.{take}
use Rattle.lryacc.specs.Numbered.{AddsNumbers, HaveRules}
use Rattle.lryacc.proofs.numbering.Numbering.add_bare_rules.Given as goal

abbrev pub invariant-loop-statement : goal.invariant-loop-statement
invariant-loop-statement l = record {
  added : AddsNumbers l.initial.self l.self;
  have : HaveRules (take l.statement-index l.statement-items) l.self;
}
