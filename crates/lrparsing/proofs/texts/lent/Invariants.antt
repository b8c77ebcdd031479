use Rattle.std.proofs.Common.{◌≡◌, map, take, string_bytes}
use Rattle.lrparsing.proofs.texts.lent.Given as goal

abbrev pub invariant-loop-text : goal.invariant-loop-text
invariant-loop-text l = map (λ n. n.now) l.list.items ≡ map string_bytes (take l.text-index l.texts)
