-- what the cards so far show is so
use Rattle.std.proofs.Common.{All}
use Rattle.std.specs.Option.{ForSome}
use Rattle.lrshown.specs.Ambiguities.{IsShown}
use Rattle.lrshown.specs.Losses.{IsShownLoss}
use Rattle.lrreport.proofs.conflicts.Checked.resolved_cards.Given as goal

abbrev pub invariant-loop-resolution : goal.invariant-loop-resolution
invariant-loop-resolution l =
    let found = l.self.found.now in
    (All (λ card. ForSome card.ambiguity (λ a. IsShown found.grm a.now)) l.cards.items)
    × (All (λ card. ForSome card.loss (λ l. IsShownLoss found.grm found.table l.now)) l.cards.items)
