-- each so far is said among the lexemes, and all that they say so far is there
use Rattle.std.proofs.Common.{◌+◌, ◌<◌, All, Contains}
use Rattle.lryacc.specs.declared.parsers.Dynamic.{Dynamic}
use Rattle.lryacc.specs.Parsers.{IsRead, StandsAmong}
use Rattle.lryacc.proofs.parsers.dynamics.Given as goal

abbrev pub invariant-loop-at : goal.invariant-loop-at
invariant-loop-at l = record {
  among : All (StandsAmong l.text l.lexemes) l.list.items;
  each : (dynamic : Dynamic) (stands : StandsAmong l.text l.lexemes dynamic) → stands.at + 1 < l.at
      → IsRead l.text stands.behind dynamic.kind → Contains l.list.items dynamic;
}
