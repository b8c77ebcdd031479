use Rattle.std.proofs.Common.{map}
use Rattle.std.specs.Str.{bytes_eq}
use Rattle.std.specs.HashMap.{get_by}
use Rattle.lrparts.specs.LookUps.{FindsNames}
use Rattle.lrparts.proofs.doubles.has_double.Given as goal

abbrev pub invariant-loop-i : goal.invariant-loop-i
invariant-loop-i l =
    FindsNames (λ q. get_by (λ k. bytes_eq q k.now) l.places) (map (λ n. n.now) l.names) l.i
