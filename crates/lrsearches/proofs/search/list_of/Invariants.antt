-- a walk to a visit from which it goes on
use Rattle.std.proofs.Common.{◌<◌, map, length}
use Rattle.lrgrammar.specs.Symbols.{symbol_of}
use Rattle.lrsearches.specs.Trails.{visits_of, IsWalk}
use Rattle.lrsearches.proofs.search.list_of.Given as goal

abbrev pub invariant-loop-from : goal.invariant-loop-from
invariant-loop-from g l =
    let number = g.T.IndexStorage.number in
    record {
      walk : IsWalk (visits_of number l.visits) l.fn.visit l.at (map (symbol_of number) l.list.items);
      within : l.at < length l.visits;
    }

abbrev pub decreases-loop-from : goal.decreases-loop-from
decreases-loop-from g l = l.at
