-- the items so far, and then those of the rest, are all those before such tokens
use Rattle.std.proofs.Common.{◌≡◌, ◌++◌}
use Rattle.std.specs.Map.{keys_of}
use Rattle.lrgrammar.specs.Symbols.{number_of}
use Rattle.lrreport.proofs.ItemsBefore.{before}
use Rattle.lrreport.proofs.told.Told.items_before.Given as goal

abbrev pub invariant-loop-key : goal.invariant-loop-key
invariant-loop-key l =
    l.items.items ++ before number_of l.self.file.now l.tokens l.key-iterator ≡ before number_of l.self.file.now l.tokens (keys_of l.closed.items.entries)
