use Rattle.std.proofs.Common.{◌≡◌, ◌<◌, ◌==◌, ℕ, false, length, get_or, take}
use Rattle.std.specs.List.{list_any}
use Rattle.lrparts.proofs.causes.used_rules.Given as goal

abbrev pub invariant-loop-prod : goal.invariant-loop-prod
invariant-loop-prod l = record {
  all : length l.used.items ≡ length l.parts.rules.items;
  each : (r : ℕ) → r < length l.used.items → get_or l.used.items r false ≡ list_any (λ p. p.rule == r) (take l.prod-index l.parts.prods.items);
}
