use Rattle.std.proofs.Common.{◌≡◌, map}
use Rattle.std.specs.List.{range_with_len}
use Rattle.std.specs.String.{string_bytes}
use Rattle.lrspec.specs.texts.MachineLines.{production_label}
use Rattle.lrtable.proofs.machine.answers.production_labels.Given as goal

abbrev pub invariant-loop-prod : goal.invariant-loop-prod
invariant-loop-prod g l = map string_bytes l.labels.items ≡ map (production_label l.grm) (range_with_len 0 l.prod)
