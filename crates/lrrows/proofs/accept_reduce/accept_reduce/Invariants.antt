use Rattle.std.specs.Prelude.{option_map}
use Rattle.lrrows.proofs.LeastAcceptReduce.{IsAcceptReduceBefore}
use Rattle.lrrows.proofs.accept_reduce.accept_reduce.Given as goal

abbrev pub invariant-loop-stidx : goal.invariant-loop-stidx
invariant-loop-stidx g l = IsAcceptReduceBefore l.grm l.sg (option_map (λ p. g.T.IndexStorage.number p.0) l.least) l.stidx-iterator
