-- the reductions by the items so far are taken
use Rattle.lritems.specs.ItemsOf.{items_of}
use Rattle.lrgrammar.specs.Symbols.{number_of}
use Rattle.lrkept.proofs.TakenCells.{TakenBut}
use Rattle.lrkept.proofs.choices.takes_reductions.Given as goal

abbrev pub invariant-loop-key : goal.invariant-loop-key
invariant-loop-key l =
    TakenBut l.grm l.graph l.table l.fn.state.0 l.fn.token.0 (items_of number_of l.key-iterator)
