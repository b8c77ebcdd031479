-- the start is not chosen by those so far
use Rattle.std.proofs.Common.{◌≡◌, drop}
use Rattle.lrshown.specs.ShownTexts.{chosen_in}
use Rattle.lrshown.proofs.names.start_of.Given as goal

abbrev pub invariant-loop-prod : goal.invariant-loop-prod
invariant-loop-prod l = chosen_in l.prod-items l.symbol ≡ chosen_in (drop l.prod-index l.prod-items) l.symbol
